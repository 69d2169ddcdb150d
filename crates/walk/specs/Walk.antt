-- Where queries stand in records, and what is kept of them. Assumes nothing.
use Rattle.std.specs.Prelude.{◌≡◌, ℕ, ◌+◌, ◌≤◌, true, List, length, Some, ◌≢◌, slice_index_or}
use Rattle.query.specs.declared.node.Kind.{Kind}
use Rattle.query.specs.declared.node.Kind.TheVariants.{Symbol, Any, Concat, Exact, Atleast, Atmost, In, Precisely, Noless, Nomore, And, Or, Inorder}
use Rattle.query.specs.declared.node.Node.{Node}
use Rattle.query.specs.declared.node.Role.{Role}
use Rattle.query.specs.declared.node.Role.TheVariants.{Shape}
use Rattle.query.specs.declared.node.Stage.{Stage}
pub use Rattle.query.specs.Kinds.{repeats}
use Rattle.query.specs.Stands.{at, parts_from, next_at, tree_at, ends, end_at, is_query}
use Rattle.shape.specs.Fits.{Rule, fits, fits_each}
use Rattle.wholes.specs.declared.view.View.TheVariants.{Own}
use Rattle.wholes.specs.declared.view.Many.{Many}
use Rattle.wholes.specs.declared.view.Many.TheVariants.{Exactly, AtLeast, AtMost}
use Rattle.wholes.specs.Shows.{Shows, Later, Stops}
use Rattle.walk.specs.declared.kept.Entry.{Entry}
use Rattle.walk.specs.declared.kept.Kept.{Kept}

-- a query of at most d levels stands at record i in this role
abbrev pub Stands : ℕ → List Node → Role → ℕ → Type 0
Stands d ns r i = (g : Stage) × (j : ℕ) × (end_at g d ns r i ≡ Some j)

-- k queries stand one after another, the first at record i
abbrev pub EachStands : ℕ → List Node → Role → ℕ → ℕ → Type 0
EachStands d ns r k i = (g : Stage) × (j : ℕ) × (ends (end_at g d ns r) k i ≡ Some j)

-- what the query at record i fits
abbrev pub rule : List ℕ → List Node → ℕ → Rule
rule words ns i = fits words (tree_at 16 ns i)

-- what each of k queries fits, the first at record i
abbrev pub rules : List ℕ → List Node → ℕ → ℕ → List Rule
rules words ns k i = fits_each words (parts_from (tree_at 16 ns) (next_at 16 ns) k i)

-- how many pieces or stretches a record of the kind asks for
abbrev pub many_of : Kind → ℕ → Many
many_of Symbol n = AtMost n
many_of Any n = AtMost n
many_of Concat n = AtMost n
many_of Exact n = Exactly n
many_of Atleast n = AtLeast n
many_of Atmost n = AtMost n
many_of In n = AtMost n
many_of Precisely n = Exactly n
many_of Noless n = AtLeast n
many_of Nomore n = AtMost n
many_of And n = AtMost n
many_of Or n = AtMost n
many_of Inorder n = AtMost n

-- what is kept of record i, or another entry where that is no record
abbrev pub entry : Kept → ℕ → Entry → Entry
entry k i d = slice_index_or k.entries i d

-- what is kept of record i for a repeat is right
pub record Ready (k : Kept) (ns : List Node) (words : List ℕ) (i : ℕ) : Type 0 where
  pub later : repeats (at ns i).kind ≡ true → Stands 16 ns Shape (i + 1) → (d : Entry) →
      Later (entry k i d).later (rule words ns (i + 1)) (many_of (at ns i).kind (at ns i).number) (length words)
  pub stops : repeats (at ns i).kind ≡ true → Stands 16 ns Shape (i + 1) → (d : Entry) → Stops (entry k i d).stops (rule words ns (i + 1)) (length words)

-- all that is kept of record i is right
pub record Right (k : Kept) (ns : List Node) (words : List ℕ) (i : ℕ) : Type 0 where
  pub next : (r : Role) → Stands 16 ns r i → (d : Entry) → (entry k i d).next ≡ next_at 16 ns i
  pub own : Stands 16 ns Shape i → (d : Entry) → Shows (entry k i d).own (rule words ns i) Own (length words) (length words)
  pub ready : Ready k ns words i

-- what is kept of the records from i on is right, and there are at most 64
pub record RightFrom (k : Kept) (ns : List Node) (words : List ℕ) (i : ℕ) : Type 0 where
  pub few : length ns ≤ 64
  pub right : (x : ℕ) → i ≤ x → Right k ns words x

-- what a walk that begins at record i uses is right: what is kept of it as a repeat, and all that is kept of the later records
pub record ReadyFrom (k : Kept) (ns : List Node) (words : List ℕ) (i : ℕ) : Type 0 where
  pub ready : Ready k ns words i
  pub later : RightFrom k ns words (i + 1)

-- a query of at most 16 levels stands at record i in some role
abbrev pub Somehow : List Node → ℕ → Type 0
Somehow ns i = (r : Role) × Stands 16 ns r i

-- of every record but i the same is kept
abbrev pub SameBut : Kept → Kept → ℕ → Type 0
SameBut k l i = (x : ℕ) → (x ≢ i) → (d : Entry) → entry l x d ≡ entry k x d

-- the record after that of record i is kept, and nothing else has changed
pub record KeptNext (k l : Kept) (i next : ℕ) : Type 0 where
  pub others : SameBut k l i
  pub here : (d : Entry) → entry l i d ≡ record (entry k i d) { next = next }

-- what record i needs as a repeat is kept, and nothing else has changed
pub record KeptRepeat (k l : Kept) (ns : List Node) (words : List ℕ) (i : ℕ) : Type 0 where
  pub others : SameBut k l i
  pub next : (d : Entry) → (entry l i d).next ≡ (entry k i d).next
  pub own : (d : Entry) → (entry l i d).own ≡ (entry k i d).own
  pub ready : Ready l ns words i

-- what record i fits is kept, and nothing else has changed
pub record KeptOwn (k l : Kept) (ns : List Node) (words : List ℕ) (i : ℕ) : Type 0 where
  pub others : SameBut k l i
  pub next : (d : Entry) → (entry l i d).next ≡ (entry k i d).next
  pub later : (d : Entry) → (entry l i d).later ≡ (entry k i d).later
  pub stops : (d : Entry) → (entry l i d).stops ≡ (entry k i d).stops
  pub here : Stands 16 ns Shape i → (d : Entry) → Shows (entry l i d).own (rule words ns i) Own (length words) (length words)

-- the records are a query that has come to some stage
abbrev pub IsQuery : List Node → Type 0
IsQuery ns = (g : Stage) × (is_query g ns ≡ true)
