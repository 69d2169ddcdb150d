-- The texts of the shapes on the case line, read and bound by computing.
use Rattle.std.proofs.Common.{◌≡◌, ℕ, Bool, true, false, ◌&&◌, List, [], ◌∷◌, refl}
use Rattle.std.proofs.lemmas.Bool.{and_parts, false≢true}
use Rattle.alphabet.specs.CaseAlphabet.{case_names}
use Rattle.grammar.specs.Names.{kind_named, small}
use Rattle.query.specs.Tree.{alike}
use Rattle.query.specs.Stands.{query_in, tree_at, next_at}
use Rattle.text.proofs.Computed.{gives, gives_back}
use Rattle.caseline.specs.Cases.{Case, cases, look_alikes}
use Rattle.caseline.specs.Texts.{texts, look_alike_texts, Give}

-- whether each text gives the shape of the row at its place
abbrev all_given : List (List ℕ) → List Case → Bool
all_given [] [] = true
all_given [] (x ∷ xs) = false
all_given (t ∷ ts) [] = false
all_given (t ∷ ts) (x ∷ xs) = gives case_names x.shape t && all_given ts xs

given : (ts : List (List ℕ)) (xs : List Case) → all_given ts xs ≡ true → Give ts xs
given [] [] e = tt
given [] (x ∷ xs) e = false≢true e
given (t ∷ ts) [] e = false≢true e
given (t ∷ ts) (x ∷ xs) e =
    let b = and_parts (gives case_names x.shape t) (all_given ts xs) e in
    (gives_back case_names x.shape t b.0, given ts xs b.1)

pub texts_give_cases : Give texts cases
unfolding kind_named small query_in tree_at next_at alike
texts_give_cases = given texts cases refl

pub texts_give_look_alikes : Give look_alike_texts look_alikes
unfolding kind_named small query_in tree_at next_at alike
texts_give_look_alikes = given look_alike_texts look_alikes refl
