-- The table of shapes on the case line, computed.
use Rattle.std.proofs.Common.{◌≡◌, ℕ, List, [], ◌∷◌, map, sym, refl, ap, ◌∙◌, inl, inr}
use Rattle.word.specs.Words.{has}
use Rattle.shape.specs.declared.stretch.Stretch.{Stretch}
use Rattle.shape.specs.Ranges.{some_from, row_from, rows_from}
use Rattle.shape.specs.Fits.{fits, sequence, chain, exactly, at_least, at_most, times, one_after_another}
use Rattle.shape.specs.Listing.{listing}
use Rattle.caseline.specs.Line.{case_words}
use Rattle.caseline.specs.Cases.{nulls_from, nulls, Case, cases, look_alikes, Row, Hold}

-- what two columns of a table agree on holds of each row
column : {X : Type 0} (f g : Case → X) (xs : List Case) → map f xs ≡ map g xs → (x : Case) → Row x xs → f x ≡ g x
column f g [] e x h = absurd h
column f g (y ∷ ys) e x (inl h) = ap f h ∙ (let k : f y ≡ g y = cc in k) ∙ sym (ap g h)
column f g (y ∷ ys) e x (inr h) = column f g ys (let k : map f ys ≡ map g ys = cc in k) x h

-- all listings of a table at once, and all null stretches
abbrev listings : List Case → List (List Stretch)
listings = map (λ (x : Case). listing case_words x.shape)

abbrev all_nulls : List Case → List (List ℕ)
all_nulls = map (λ (x : Case). nulls case_words x.shape)

-- a table whose columns are as computed holds
holds : (xs : List Case) → listings xs ≡ map (λ (x : Case). x.listed) xs → all_nulls xs ≡ map (λ (x : Case). x.null) xs → Hold xs
holds xs e f x h = (
  column (λ (x : Case). listing case_words x.shape) (λ (x : Case). x.listed) xs e x h,
  column (λ (x : Case). nulls case_words x.shape) (λ (x : Case). x.null) xs f x h,
)

pub cases_hold : Hold cases
unfolding listing nulls nulls_from fits sequence chain exactly at_least at_most times one_after_another some_from row_from rows_from has case_words
cases_hold = holds cases refl refl

pub look_alikes_hold : Hold look_alikes
unfolding listing nulls nulls_from fits sequence chain exactly at_least at_most times one_after_another some_from row_from rows_from has case_words
look_alikes_hold = holds look_alikes refl refl
