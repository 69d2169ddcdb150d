-- What is kept stays right while more is kept.
use Rattle.std.proofs.Common.{◌≡◌, ℕ, suc, ◌+◌, ◌<◌, ◌≤◌, true, List, [], length, get_or, set, sym, ap, ◌∙◌, subst, inl, inr, arith}
use Rattle.std.proofs.lemmas.List.{get_or_default, get_or-set_same, get_or-set_other}
use Rattle.std.proofs.lemmas.Bool.{cases_eq}
use Rattle.query.specs.declared.node.Node.{Node}
use Rattle.query.specs.declared.node.Role.{Role}
use Rattle.query.specs.declared.node.Role.TheVariants.{Shape}
use Rattle.query.specs.Rules.{part_role}
use Rattle.query.specs.Stands.{at, skips, next_at}
use Rattle.shape.specs.Fits.{Rule}
use Rattle.ends.specs.declared.Ends.{Ends}
use Rattle.tables.specs.declared.table.Table.{Table}
use Rattle.wholes.specs.declared.view.View.TheVariants.{Own}
use Rattle.wholes.specs.Shows.{Shows, Later, Stops}
use Rattle.walk.specs.declared.kept.Entry.{Entry}
use Rattle.walk.specs.declared.kept.Kept.{Kept}
use Rattle.walk.specs.Walk.{Stands, EachStands, Somehow, rule, many_of, repeats, entry, SameBut, Right, RightFrom, KeptNext, KeptRepeat, KeptOwn}
use Rattle.walk.proofs.Going.{only_part, repeat_part}
use Rattle.walk.proofs.Walking.{first, opened, lifted, Left, left_more}

-- what is kept of a record stays right while that stays the same
right_same : (k l : Kept) (ns : List Node) (words : List ℕ) (x : ℕ) → ((d : Entry) → entry l x d ≡ entry k x d) → Right k ns words x → Right l ns words x
right_same k l ns words x e h = record {
  next = λ r s d. ap (λ (y : Entry). y.next) (e d) ∙ h.next r s d;
  own = λ s d. subst (λ (y : Entry). Shows y.own (rule words ns x) Own (length words) (length words)) (sym (e d)) (h.own s d);
  ready = record {
    later = λ r s d. subst (λ (y : Entry). Later y.later (rule words ns (x + 1)) (many_of (at ns x).kind (at ns x).number) (length words)) (sym (e d)) (h.ready.later r s d);
    stops = λ r s d. subst (λ (y : Entry). Stops y.stops (rule words ns (x + 1)) (length words)) (sym (e d)) (h.ready.stops r s d);
  };
}

-- the records after i, after a step that keeps something of record i
pub right_after : (k l : Kept) (ns : List Node) (words : List ℕ) (i : ℕ) → SameBut k l i → RightFrom k ns words (i + 1) → RightFrom l ns words (i + 1)
right_after k l ns words i s h = record { few = h.few; right = λ x u. right_same k l ns words x (s x (λ e. omega arith)) (h.right x u) }

-- all steps are done
pub right_here : (k l m o : Kept) (ns : List Node) (words : List ℕ) (i : ℕ) → KeptNext k l i (next_at 16 ns i) → KeptRepeat l m ns words i →
    KeptOwn m o ns words i → RightFrom m ns words (i + 1) → RightFrom o ns words i
right_here k l m o ns words i a b s h = record {
  few = h.few;
  right = λ x u. elim (cases_eq x i) [
    | inl e ↦ subst (λ (y : ℕ). Right o ns words y) (sym e) here
    | inr ne ↦ right_same m o ns words x (s.others x ne) (h.right x (omega arith))
  ];
}
  where
    here : Right o ns words i
    here = record {
      next = λ q t d. s.next d ∙ b.next d ∙ ap (λ (y : Entry). y.next) (a.here d);
      own = s.here;
      ready = record {
        later = λ r t d. subst (λ (y : Table). Later y (rule words ns (i + 1)) (many_of (at ns i).kind (at ns i).number) (length words)) (sym (s.later d)) (b.ready.later r t d);
        stops = λ r t d. subst (λ (y : Ends). Stops y (rule words ns (i + 1)) (length words)) (sym (s.stops d)) (b.ready.stops r t d);
      };
    }

-- past the last record nothing stands
pub right_none : (k : Kept) (ns : List Node) (words : List ℕ) → length ns ≤ 64 → RightFrom k ns words (length ns)
right_none k ns words few = record {
  few = few;
  right = λ x u. record {
    next = λ q t d. absurd (let o = (opened 16 ns q x (omega arith) t).inside in omega arith);
    own = λ t d. absurd (let o = (opened 16 ns Shape x (omega arith) t).inside in omega arith);
    ready = record {
      later = λ r t d. absurd (let o = (opened 16 ns Shape (x + 1) (omega arith) t).inside in omega arith);
      stops = λ r t d. absurd (let o = (opened 16 ns Shape (x + 1) (omega arith) t).inside in omega arith);
    };
  };
}

-- the parts of record i that are left lead to the record after it
pub record Leads (ns : List Node) (i m p : ℕ) : Type 0 where
  pub left : Left 15 ns (part_role (at ns i).kind) (i + 1) m p
  pub end : skips (next_at 16 ns) m p ≡ next_at 16 ns i

pub leads_start : (ns : List Node) (i m : ℕ) → m ≡ (at ns i).parts → Somehow ns i → Leads ns i m (i + 1)
leads_start ns i m e h =
    let o = opened 16 ns h.0 i (omega arith) h.1 in
    record {
      left = record { each = subst (λ (x : ℕ). EachStands 15 ns (part_role (at ns i).kind) x (i + 1)) (sym e) o.each; further = omega arith };
      end = ap (λ (x : ℕ). skips (next_at 16 ns) x (i + 1)) e ∙ sym o.next;
    }

pub leads_here : (ns : List Node) (i m less p : ℕ) → m ≡ suc less → Leads ns i m p → (i < p) × (p < length ns) × ((r : Role) × Stands 16 ns r p)
leads_here ns i m less p e h =
    let f = first 15 ns (part_role (at ns i).kind) m less p (omega arith) e h.left.each in
    let u = h.left.further in
    let s = lifted 15 ns (part_role (at ns i).kind) p (omega arith) f.here in
    (omega arith, (opened 16 ns (part_role (at ns i).kind) p (omega arith) s).inside, (part_role (at ns i).kind, s))

pub leads_more : (ns : List Node) (i m less p q : ℕ) → m ≡ suc less → q ≡ next_at 16 ns p → Leads ns i m p → Leads ns i less q
leads_more ns i m less p q e n h = record {
  left = subst (Left 15 ns (part_role (at ns i).kind) (i + 1) less) (sym n) (left_more 15 ns (part_role (at ns i).kind) (i + 1) m less p (omega arith) e h.left);
  end = ap (skips (next_at 16 ns) less) n ∙ sym (ap (λ (x : ℕ). skips (next_at 16 ns) x p) e) ∙ h.end;
}

pub leads_all : (ns : List Node) (i m p : ℕ) → m ≡ 0 → Leads ns i m p → p ≡ next_at 16 ns i
leads_all ns i m p e h = sym (ap (λ (x : ℕ). skips (next_at 16 ns) x p) e) ∙ h.end

-- the part of a repeat
pub repeated_part : (ns : List Node) (i : ℕ) → Somehow ns i → repeats (at ns i).kind ≡ true → Stands 16 ns Shape (i + 1)
repeated_part ns i h e =
    let o = opened 16 ns h.0 i (omega arith) h.1 in
    let p = repeat_part (at ns i).kind (at ns i).parts e o.parts in
    lifted 15 ns Shape (i + 1) (omega arith) (only_part [] 16 ns h.0 i o Shape (omega arith) p.0 p.1)

-- another entry is written over what was kept of record i
module _ (k l : Kept) (i : ℕ) (e : Entry) (in64 : i < length k.entries) (w : l.entries ≡ set k.entries i e) where
  others : SameBut k l i
  others y ne d = ap (λ (es : List Entry). get_or es y d) w ∙ get_or-set_other k.entries i y e d ne

  here : (d : Entry) → entry l i d ≡ e
  here d = ap (λ (es : List Entry). get_or es i d) w ∙ get_or-set_same k.entries i e d in64

  before : (x d : Entry) → entry k i x ≡ entry k i d
  before x d = get_or_default k.entries i x d in64

  pub repeat_kept : (ns : List Node) (words : List ℕ) (x z : Entry) → e.next ≡ (entry k i x).next → e.own ≡ (entry k i z).own →
      Later e.later (rule words ns (i + 1)) (many_of (at ns i).kind (at ns i).number) (length words) → Stops e.stops (rule words ns (i + 1)) (length words) →
      KeptRepeat k l ns words i
  repeat_kept ns words x z n o later stops = record {
    others = others;
    next = λ d. ap (λ (y : Entry). y.next) (here d) ∙ n ∙ ap (λ (y : Entry). y.next) (before x d);
    own = λ d. ap (λ (y : Entry). y.own) (here d) ∙ o ∙ ap (λ (y : Entry). y.own) (before z d);
    ready = record {
      later = λ r u d. subst (λ (y : Entry). Later y.later (rule words ns (i + 1)) (many_of (at ns i).kind (at ns i).number) (length words)) (sym (here d)) later;
      stops = λ r u d. subst (λ (y : Entry). Stops y.stops (rule words ns (i + 1)) (length words)) (sym (here d)) stops;
    };
  }

  pub own_kept : (ns : List Node) (words : List ℕ) (x : Entry) → e.next ≡ (entry k i x).next → e.later ≡ (entry k i x).later → e.stops ≡ (entry k i x).stops →
      Shows e.own (rule words ns i) Own (length words) (length words) → KeptOwn k l ns words i
  own_kept ns words x n f g shown = record {
    others = others;
    next = λ d. ap (λ (y : Entry). y.next) (here d) ∙ n ∙ ap (λ (y : Entry). y.next) (before x d);
    later = λ d. ap (λ (y : Entry). y.later) (here d) ∙ f ∙ ap (λ (y : Entry). y.later) (before x d);
    stops = λ d. ap (λ (y : Entry). y.stops) (here d) ∙ g ∙ ap (λ (y : Entry). y.stops) (before x d);
    here = λ u d. subst (λ (y : Entry). Shows y.own (rule words ns i) Own (length words) (length words)) (sym (here d)) shown;
  }

-- a table under another name for the length of the line
pub own_at : (t : Table) (P : Rule) (n m : ℕ) → m ≡ n → Shows t P Own n n → Shows t P Own m m
own_at t P n m e h = subst (λ (k : ℕ). Shows t P Own k k) (sym e) h
