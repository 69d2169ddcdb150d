-- The records of a bound query are written as its text, or refused.
use Rattle.std.proofs.Common.{◌≡◌, ℕ, ◌≤◌, true, leb, List, [], length, take, None, Ok, sym, refl, ap, ◌∙◌, subst, ap₂, zero-add, arith}
use Rattle.std.proofs.lemmas.Grind.{common_steps}
use Rattle.std.proofs.lemmas.List.{take_at}
use Rattle.alphabet.specs.Every.{every}
use Rattle.alphabet.specs.Names.{all_distinct, may_name}
use Rattle.std.proofs.lemmas.Bool.{and_parts, leb-true}
use Rattle.query.specs.declared.node.Node.{Node}
use Rattle.query.specs.declared.node.Stage.{Stage}
use Rattle.query.specs.declared.node.Stage.TheVariants.{Bound}
use Rattle.query.specs.Stands.{is_query, query_in}
use Rattle.query.proofs.Standing.{is_query_sound}
use Rattle.writer.specs.Writing.{text_of, put_at, Wrote}
use Rattle.writer.specs.Laying.{laid}
use Rattle.text.specs.Written.{write_fault, unless, write_answer, ReadsBack}
use Rattle.writer.proofs.Pens.{laid_query}
use Rattle.text.proofs.Rereading.{rereads}

pub query_few : (s : Stage) (xs : List Node) → is_query s xs ≡ true → length xs ≤ 64
unfolding is_query
query_few s xs e = leb-true (length xs) 64 (and_parts (leb (length xs) 64) _ e).0

-- the answer is the refusal where there is one, else the length of the text
pub write_answer_unless : (names : List (List ℕ)) (xs : List Node) (sheet buffer : ℕ) → write_answer names xs sheet buffer ≡ unless (write_fault names xs sheet buffer) (length (text_of names (query_in xs)))
write_answer_unless names xs sheet buffer = grind (arith, common_steps)

-- what is answered and written, where nothing is wrong
pub record Written (names : List (List ℕ)) (xs : List Node) (sheet : ℕ) (before after : List ℕ) (r : ℕ) : Type 0 where
  pub answer : Ok r ≡ write_answer names xs sheet (length before)
  pub out : after ≡ put_at before 0 (text_of names (query_in xs))
  pub back : ReadsBack names (query_in xs) (take r after)

module _ (names : List (List ℕ)) (xs : List Node) (sheet : ℕ) (out : List ℕ) (sound : None ≡ write_fault names xs sheet (length out)) where
  -- what is written is a bound query, and there is room for it
  pub may_write : (is_query (Bound (length names)) xs ≡ true) × (4096 ≤ length out)
  may_write = (grind (arith, common_steps), grind (arith, common_steps))

  -- the text of the query is written, and reads back
  pub written : (after : List ℕ) (r : ℕ) → Wrote out 0 (laid names [] xs) after r → every may_name names ≡ true → all_distinct names ≡ true → r ≤ 1152 →
      Written names xs sheet out after r
  written after r w may apart short =
      let q = may_write.0 in
      let text = text_of names (query_in xs) in
      let t : laid names [] xs ≡ text = laid_query names (Bound (length names)) xs q in
      let long : r ≡ length text = w.ends ∙ zero-add _ ∙ ap length t in
      let holds = w.holds ∙ ap (put_at out 0) t in
      let same : take r after ≡ text = ap₂ (λ i l. take i l) long holds ∙ take_at text _ (length text) refl in
      record {
        answer = ap (λ i. Ok i) long ∙ ap (λ o. unless o (length text)) sound ∙ sym (write_answer_unless names xs sheet (length out));
        out = holds;
        back = subst (ReadsBack names (query_in xs)) (sym same) (rereads names may apart (query_in xs) (is_query_sound (Bound (length names)) xs q).1 (omega arith));
      }
