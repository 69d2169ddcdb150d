use Rattle.std.proofs.Common.{◌≡◌, Some, sym, ap₂, ◌∙◌, w64, to_z, of_z}
use Rattle.std.proofs.lemmas.Int.{to_z-of_z}
use Rattle.alphabet.proofs.Rows.{some_if, both_asked}
use Rattle.alphabet.specs.Sheets.{bounds_asking}
use Rattle.alphabet.proofs.bounds.Bounds.in_row.Goals as goal

pub returns : goal.returns
returns c =
    let a = c.in_ok-low.ensures.cases in
    let b = c.in_ok-high.ensures.cases in
    let p : ◌≡◌ (to_z w64 (of_z w64 c.number_in.result)) _ = to_z-of_z w64 c.number_in.result (record { sfits = c.number_in.type_inv }) ∙ c.number_in.ensures in
    let q : ◌≡◌ (to_z w64 (of_z w64 c.number_in-2.result)) _ = to_z-of_z w64 c.number_in-2.result (record { sfits = c.number_in-2.type_inv }) ∙ c.number_in-2.ensures in
    c.then_some.ensures ∙ some_if _ _ _ c.are_right.ensures
    ∙ ap₂ (λ x y. bounds_asking x y (Some c.in_ok-ok.field-0) (Some c.in_ok-ok-2.field-0)) p q
    ∙ sym (both_asked _ _ _ _ _ a.0 a.1 b.0 b.1 _ _
    (sym c.try_from.ensures ∙ sym c.ok.ensures.value ∙ c.in_ok-ok.was) (sym c.try_from-2.ensures ∙ sym c.ok-2.ensures.value ∙ c.in_ok-ok-2.was))
