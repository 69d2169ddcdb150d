-- Bytes put into a buffer, one after another.
use Rattle.std.proofs.Common.{◌≡◌, ℕ, zero, suc, ◌+◌, ◌/◌, ◌%◌, ◌≤◌, Bool, true, false, cond, ◌&&◌, ltb, leb, List, [], ◌∷◌, ◌++◌, length, get_or, take, drop, sym, ap, ◌∙◌, subst, ap₂, append_assoc, add-zero, arith, rules}
use Rattle.std.proofs.lemmas.List.{length-append, length-take-le, take-append-drop, take_at, drop-drop, drop_at}
use Rattle.std.proofs.lemmas.Bool.{and_parts, cond-true, cond-false, leb-true}
use Rattle.alphabet.specs.Every.{every}
use Rattle.alphabet.specs.Names.{may_name}
use Rattle.query.specs.declared.node.Kind.{Kind}
use Rattle.grammar.specs.Names.{operator_word}
use Rattle.grammar.specs.Spelling.{takes_number}
use Rattle.writer.specs.Writing.{numeral, number_text, put_at, Wrote}

-- nothing put changes nothing
pub put_nothing : (out : List ℕ) (at : ℕ) → out ≡ put_at out at []
put_nothing out at = sym (ap (λ i. take at out ++ drop i out) (add-zero at) ∙ take-append-drop at out)

-- what is put behind what was put is put with it
pub put_put : (out : List ℕ) (at : ℕ) (bs cs : List ℕ) → at + length bs + length cs ≤ length out → put_at (put_at out at bs) (at + length bs) cs ≡ put_at out at (bs ++ cs)
put_put out at bs cs h =
    let n = at + length bs in
    let front : length (take at out ++ bs) ≡ n = length-append (take at out) bs ∙ (let c = length-take-le at out (omega arith) in omega arith) in
    let same : put_at out at bs ≡ (take at out ++ bs) ++ drop n out = sym (append_assoc (take at out) bs (drop n out)) in
    let first : take n (put_at out at bs) ≡ take at out ++ bs = ap (take n) same ∙ take_at (take at out ++ bs) (drop n out) n front in
    let behind : drop (n + length cs) (put_at out at bs) ≡ drop (at + length (bs ++ cs)) out =
    sym (drop-drop (length cs) n (put_at out at bs))
    ∙ ap (λ l. drop (length cs) (drop n l)) same
    ∙ ap (drop (length cs)) (drop_at (take at out ++ bs) (drop n out) n front)
    ∙ drop-drop (length cs) n out
    ∙ ap (λ i. drop i out) (let a = length-append bs cs in let e : n + length cs ≡ at + length (bs ++ cs) = omega arith in e) in
    ap₂ (λ a b. a ++ (cs ++ b)) first behind
    ∙ append_assoc (take at out) bs (cs ++ drop (at + length (bs ++ cs)) out)
    ∙ ap (λ l. take at out ++ l) (sym (append_assoc bs cs (drop (at + length (bs ++ cs)) out)))

pub wrote_nothing : (out : List ℕ) (at : ℕ) → Wrote out at [] out at
wrote_nothing out at = record { ends = sym (add-zero at); holds = put_nothing out at }

-- bytes behind bytes
pub wrote_then : {out xs o ys p : List ℕ} {at a b : ℕ} → Wrote out at xs o a → Wrote o a ys p b → at + length xs + length ys ≤ length out → Wrote out at (xs ++ ys) p b
wrote_then {out} {xs} {o} {ys} {p} {at} {a} {b} w v h =
    let e = w.ends in
    let f = v.ends in
    let g = length-append xs ys in
    record {
      ends = omega arith;
      holds = v.holds ∙ ap₂ (λ l i. put_at l i ys) w.holds e ∙ put_put out at xs ys h;
    }

pub wrote_as : {out xs ys o : List ℕ} {at a : ℕ} → xs ≡ ys → Wrote out at xs o a → Wrote out at ys o a
wrote_as {out} {xs} {ys} {o} {at} {a} e w = subst (λ zs. Wrote out at zs o a) e w

pub numeral_short : (n : ℕ) → length (numeral n) ≤ 3
numeral_short n = go (ltb n 10) (ltb n 100)
  where
    go : (a b : Bool) → length (cond a ((48 + n) ∷ []) (cond b ((48 + n / 10) ∷ (48 + n % 10) ∷ []) ((48 + n / 100) ∷ (48 + n / 10 % 10) ∷ (48 + n % 10) ∷ []))) ≤ 3
    go true b = omega arith
    go false true = omega arith
    go false false = omega arith

pub word_short : (k : Kind) → length (operator_word k) ≤ 9
word_short k = search rules

pub number_none : (k : Kind) (n : ℕ) → takes_number k ≡ false → [] ≡ number_text k n
number_none k n e = sym (cond-false (takes_number k) (32 ∷ numeral n) [] e)

pub number_some : (k : Kind) (n : ℕ) → takes_number k ≡ true → 32 ∷ numeral n ≡ number_text k n
number_some k n e = sym (cond-true (takes_number k) (32 ∷ numeral n) [] e)

-- the names of an alphabet are short
pub name_short : (names : List (List ℕ)) (j : ℕ) → every may_name names ≡ true → length (get_or names j []) ≤ 16
name_short [] j e = omega arith
name_short (x ∷ xs) zero e =
    let a = and_parts (may_name x) (every may_name xs) e in
    let b = and_parts (leb 1 (length x) && leb (length x) 16) _ a.0 in
    leb-true (length x) 16 (and_parts (leb 1 (length x)) (leb (length x) 16) b.0).1
name_short (x ∷ xs) (suc j) e = name_short xs j (and_parts (may_name x) (every may_name xs) e).1
