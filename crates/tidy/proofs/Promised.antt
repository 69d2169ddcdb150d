-- What tidying promises, from the steps that it takes.
use Rattle.std.proofs.Common.{◌≡◌, ℕ, ◌+◌, ◌-◌, ◌≤◌, Bool, true, false, cond, ◌&&◌, ltb, leb, List, ◌++◌, length, take, drop, replicate, Some, None, Ok, sym, refl, ap, ◌∙◌, ap₂, arith}
use Rattle.std.proofs.lemmas.List.{length-take-le, take_at, drop_at, drop_all, replicate-append-replicate}
use Rattle.std.proofs.lemmas.Bool.{and_parts, and_from, leb-true, le-leb, ltb-false}
use Rattle.query.specs.declared.node.Node.{Node}
use Rattle.query.specs.declared.node.Role.TheVariants.{Shape}
use Rattle.query.specs.declared.node.Stage.{Stage}
use Rattle.query.specs.declared.node.Stage.TheVariants.{Bound}
use Rattle.query.specs.Tree.{Query, records, levels}
use Rattle.query.specs.Rules.{keeps, well}
use Rattle.query.specs.Stands.{blank, is_query, query_in}
use Rattle.query.proofs.Standing.{is_query_sound, is_query_found}
use Rattle.shape.specs.Fits.{fits}
use Rattle.rules.specs.Applies.{applies}
use Rattle.rules.specs.Places.{Here, KeptWithin}
use Rattle.rules.proofs.Cursor.{here_inside}
use Rattle.tidy.specs.declared.fault.TidyFault.TheVariants.{Short, Unbound}
use Rattle.tidy.specs.Edits.{cut_out}
use Rattle.tidy.specs.Promise.{refusal, Answers, Settled, Settles}

-- the three things that make a query one of its stage
pub well_parts : (s : Stage) (q : Query) → well s q ≡ true → (keeps s Shape q ≡ true) × (levels q ≤ 16) × (length (records q) ≤ 64)
unfolding well
well_parts s q e =
    let a = and_parts _ _ e in
    let b = and_parts _ _ a.1 in
    (a.0, leb-true (levels q) 16 b.0, leb-true (length (records q)) 64 b.1)

pub well_from : (s : Stage) (q : Query) → keeps s Shape q ≡ true → levels q ≤ 16 → length (records q) ≤ 64 → well s q ≡ true
unfolding well
well_from s q a b c = and_from _ _ a (and_from _ _ (le-leb (levels q) 16 b) (le-leb (length (records q)) 64 c))

-- what is not refused
none_refused : (short bound : Bool) → cond short (Some Short) (cond bound None (Some Unbound)) ≡ None → (short ≡ false) × (bound ≡ true)
none_refused true bound e = (cc, cc)
none_refused false true e = (refl, refl)
none_refused false false e = (cc, cc)

module _ (count : ℕ) (before : List Node) (ready : refusal count before ≡ None) where
  is_ready : (ltb (length before) 64 ≡ false) × ((leb count 64 && is_query (Bound 32) (take count before)) ≡ true)
  is_ready = none_refused (ltb (length before) 64) (leb count 64 && is_query (Bound 32) (take count before)) ready

  ok : (leb count 64 ≡ true) × (is_query (Bound 32) (take count before) ≡ true)
  ok = and_parts _ _ is_ready.1

  -- the query takes up no more than the sheet has
  pub cut_ready : count ≤ length before
  cut_ready =
      let room = ltb-false (length before) 64 is_ready.0 in
      let few = leb-true count 64 ok.0 in
      omega arith

module _ (count : ℕ) (before cut-sheet : List Node) (ready : refusal count before ≡ None) (cut-is : cut-sheet ≡ cut_out before count (length before)) where
  -- the query that is tidied
  abbrev old : Query
  old = query_in (take count before)

  few : count ≤ length before
  few = cut_ready count before ready

  old_records : records old ≡ take count before
  old_records = (is_query_sound (Bound 32) (take count before) (ok count before ready).1).0

  old_well : (keeps (Bound 32) Shape old ≡ true) × (levels old ≤ 16) × (length (records old) ≤ 64)
  old_well = well_parts (Bound 32) old (is_query_sound (Bound 32) (take count before) (ok count before ready).1).1

  old_size : length (records old) ≡ count
  old_size = let f = few in ap length old_records ∙ length-take-le count before (omega arith)

  -- it stands at the head of the sheet, with blanks behind it
  old_here : Here cut-sheet 0 old (replicate (length before - count) blank)
  old_here =
      let n : length before ≤ length before = omega arith in
      cut-is ∙ ap₂ (λ (x y : List Node). x ++ (y ++ replicate (length before - count) blank)) (sym old_records) (drop_all (length before) before n)

  pub settle_ready : KeptWithin 16 cut-sheet 0
  settle_ready =
      let w = old_well in
      (here_inside cut-sheet 0 old (replicate (length before - count) blank) old_here, Bound 32, Shape, old, replicate (length before - count) blank, w.0, w.1, w.2, old_here)

  module _ (after : List Node) (m : ℕ) (settles : Settles cut-sheet after m) where
    new : (r : Query) × Settled old r × (applies r ≡ false) × (m ≡ length (records r))
        × (after ≡ records r ++ (replicate (length before - count) blank ++ replicate (length (records old) - length (records r)) blank))
    new = let w = old_well in settles (Bound 32) Shape old (replicate (length before - count) blank) w.0 w.1 old_here

    -- no more records than before
    pub settle_few : m ≤ count
    settle_few =
        let v = new in
        let a = v.1.fewer in
        let b = v.3 in
        let c = old_size in
        omega arith

    new_well : (s : Stage) → keeps s Shape old ≡ true → well s new.0 ≡ true
    new_well s e =
        let v = new in
        let w = old_well in
        let a = v.1.flatter in
        let b = v.1.fewer in
        let c = w.1 in
        let d = w.2 in
        well_from s v.0 (v.1.kept s Shape e) (omega arith) (omega arith)

    new_records : take m after ≡ records new.0
    new_records = let v = new in ap (take m) v.4 ∙ take_at (records v.0) _ m (sym v.3)

    new_query : query_in (take m after) ≡ new.0
    new_query = ap query_in new_records ∙ (is_query_found (Bound 32) new.0 (new_well (Bound 32) old_well.0)).1

    behind : drop m after ≡ replicate (length before - m) blank
    behind =
        let v = new in
        let a = v.1.fewer in
        let b = v.3 in
        let c = old_size in
        let d = few in
        let n : length before - count + (length (records old) - length (records v.0)) ≡ length before - m = omega arith in
        ap (drop m) v.4 ∙ drop_at (records v.0) _ m (sym v.3)
        ∙ replicate-append-replicate (length before - count) (length (records old) - length (records v.0)) blank ∙ ap (λ (x : ℕ). replicate x blank) n

    pub answers_ok : Answers count before after (Ok m)
    answers_ok = (
      ready,
      settle_few,
      record {
        same = λ words s a b l. new.1.same words s a b l ∙ sym (ap (λ (q : Query). fits words q s a b) new_query);
        tidy = ap applies new_query ∙ new.2;
        bound = λ symbols are.
            let same : query_in (take count before) ≡ are.0 = sym (ap query_in are.1) ∙ (is_query_found (Bound symbols) are.0 are.2).1 in
            let kept : keeps (Bound symbols) Shape old ≡ true = ap (keeps (Bound symbols) Shape) same ∙ (well_parts (Bound symbols) are.0 are.2).0 in
            (new.0, sym new_records, new_well (Bound symbols) kept);
      },
      behind,
    )
