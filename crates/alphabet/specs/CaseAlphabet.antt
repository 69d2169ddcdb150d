-- The alphabet of the case line. Ranks are in hundredths. Assumes nothing.
use Rattle.std.specs.Prelude.{ℕ, List, [], ◌∷◌, pos, neg_ℤ, codes}
use Rattle.alphabet.specs.declared.bounds.Asked.TheVariants.{Anyvalue, Zero, Nonzero}
use Rattle.alphabet.specs.declared.bounds.Bounds.{Bounds}

-- the eight names
abbrev pub case_names : List (List ℕ)
case_names =
    codes "up" ∷ codes "Up" ∷ codes "down" ∷ codes "Down"
    ∷ codes "appears" ∷ codes "disappears" ∷ codes "stable" ∷ codes "zero" ∷ []

-- their bounds, in the order of the names
abbrev pub case_bounds : List Bounds
case_bounds =
    record { low = pos 5; high = pos 19; first = Anyvalue; last = Anyvalue }
    ∷ record { low = pos 20; high = pos 100; first = Anyvalue; last = Anyvalue }
    ∷ record { low = neg_ℤ (pos 19); high = neg_ℤ (pos 5); first = Anyvalue; last = Anyvalue }
    ∷ record { low = neg_ℤ (pos 100); high = neg_ℤ (pos 19); first = Anyvalue; last = Anyvalue }
    ∷ record { low = pos 0; high = pos 100; first = Zero; last = Nonzero }
    ∷ record { low = neg_ℤ (pos 100); high = pos 0; first = Nonzero; last = Zero }
    ∷ record { low = neg_ℤ (pos 4); high = pos 4; first = Anyvalue; last = Anyvalue }
    ∷ record { low = pos 0; high = pos 0; first = Zero; last = Zero }
    ∷ []
