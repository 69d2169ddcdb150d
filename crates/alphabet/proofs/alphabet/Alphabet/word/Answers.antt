use Rattle.std.proofs.Common.{◌≡◌, ℕ, ◌<◌, Bool, get_or, sym, ap, ◌∙◌, arith, w64, to_z, of_z}
use Rattle.std.proofs.lemmas.List.{get_or-map}
use Rattle.word.proofs.Bits.{word_out}
use Rattle.alphabet.specs.Carrying.{carries, unbounded}
use Rattle.alphabet.specs.Spelling.{bounds_in}
use Rattle.alphabet.proofs.Carried.{word_set}
use Rattle.alphabet.proofs.alphabet.Alphabet.word.Goals as goal
use Rattle.alphabet.proofs.alphabet.Alphabet.word.Goals.{then-carried, else-carried}

pub loop-j-preserved : goal.loop-j-preserved
loop-j-preserved g c =
    let symbols = c.as_slice-symbols.result.now in
    let j = c.loop-j.j in
    let test : ℕ → Bool = λ i. carries (get_or (bounds_in symbols) i unbounded) (to_z w64 (of_z w64 c.rank_to-rank.result)) c.is_zero-first_zero.result c.is_zero-last_zero.result in
    let few : j < 32 = omega (arith, c.as_slice-symbols.ensures.few) in
    let here : get_or (bounds_in symbols) j unbounded ≡ c.index-symbols-j.result.bounds =
    get_or-map (λ symbol. symbol.bounds) symbols j c.index-symbols-j.result unbounded c.loop-j-test.true ∙ ap (λ symbol. symbol.bounds) (sym c.index-symbols-j.is) in
    let told = ap (λ x. carries x (to_z w64 (of_z w64 c.rank_to-rank.result)) c.is_zero-first_zero.result c.is_zero-last_zero.result) (sym here) in
    elim c.if-carried.branch [
      | then-carried w ↦ w.word-is ∙ word_set test j c.loop-j.word few c.loop-j.invariant (w.if-carried.ensures ∙ told)
      | else-carried w ↦ w.word-is ∙ word_out test j c.loop-j.word c.loop-j.invariant (w.if-carried.ensures ∙ told)
    ]
