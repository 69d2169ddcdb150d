-- What it means that a table shows which stretches a rule fits. Assumes nothing.
use Rattle.std.specs.Prelude.{◌≡◌, ℕ, suc, ◌+◌, ◌<◌, ◌≤◌, Bool, true, ◌&&◌, ◌⊎◌, List, length, Decides, ◌==◌, ◌≢◌, nat_le, slice_index}
use Rattle.word.specs.Words.{has}
use Rattle.shape.specs.Fits.{Rule, exactly, at_least, at_most, times}
use Rattle.shape.specs.Laws.{Pieces}
use Rattle.ends.specs.declared.Ends.{Ends}
use Rattle.ends.specs.Member.{member}
use Rattle.tables.specs.declared.table.Table.{Table}
use Rattle.tables.specs.Holds.{Held, Joined}
use Rattle.wholes.specs.declared.view.View.{View}
use Rattle.wholes.specs.declared.view.View.TheVariants.{From, Own}
use Rattle.wholes.specs.declared.view.Many.{Many}
use Rattle.wholes.specs.declared.view.Many.TheVariants.{Exactly, AtLeast, AtMost}

-- from where a stretch that begins at a is seen
abbrev pub seen_from : View → ℕ → ℕ
seen_from (From s) a = s
seen_from Own a = a

-- the first position at which stretches may begin
abbrev pub lowest : View → ℕ
lowest (From s) = s
lowest Own = 0

-- the rule fits (a, b) in this view, up to a position
pub record Fit (P : Rule) (v : View) (to a b : ℕ) : Type 0 where
  pub low : lowest v ≤ a
  pub up : a ≤ b
  pub high : b ≤ to
  pub fit : P (seen_from v a) a b ≡ true

-- on a line of n steps the table has only stretches that the rule fits, and all of those that end at `to` or before it
pub record Shows (t : Table) (P : Rule) (v : View) (to n : ℕ) : Type 0 where
  pub sound : (a b : ℕ) → Held t a b → Fit P v n a b
  pub full : (a b : ℕ) → Fit P v to a b → Held t a b

-- there may be so many
abbrev pub allowed : Many → ℕ → Bool
allowed (Exactly k) m = m == k
allowed (AtLeast k) m = nat_le k m
allowed (AtMost k) m = nat_le m k

-- a symbol fits a step that carries it
abbrev pub carrying : List ℕ → ℕ → Rule
carrying words j s a b = b == suc a && has (slice_index words a) j

-- a repeat of so many pieces, on a line of n steps
abbrev pub repeated : ℕ → Rule → Many → Rule
repeated n P (Exactly k) = exactly n P k
repeated n P (AtLeast k) = at_least n P k
repeated n P (AtMost k) = at_most n P k

-- so many stretches inside
abbrev pub counting : Rule → Many → Rule
counting P many s a b = allowed many (times P s a b)

-- so many steps of which a condition holds
abbrev pub windowed : Rule → ℕ → Rule
windowed P len s a b = let rest = P s a b in (b == a + len) && rest

-- the table has what may follow the first piece of a repeat: pieces of which, with the first, there may be so many
pub record Later (t : Table) (P : Rule) (many : Many) (n : ℕ) : Type 0 where
  pub sound : (c b : ℕ) → Held t c b → (b ≤ n) × ((cs : List ℕ) × (allowed many (suc (length cs)) ≡ true) × Pieces P c c cs b)
  pub full : (c b : ℕ) (cs : List ℕ) → b ≤ n → allowed many (suc (length cs)) ≡ true → Pieces P c c cs b → Held t c b

-- the positions of the line from which no piece goes on
abbrev pub Stops : Ends → Rule → ℕ → Type 0
Stops e P n = (b : ℕ) → Decides (member e b) ((b ≤ n) × ((y : ℕ) → b < y → y ≤ n → P b b y ≢ true))

-- the positions at which windows of a length begin of which a condition holds, up to a position
abbrev pub Starts : Ends → Rule → View → ℕ → ℕ → Type 0
Starts e Q v len to = (a : ℕ) → Decides (member e a) ((lowest v ≤ a) × (a + len ≤ to) × (Q (seen_from v a) a (a + len) ≡ true))

-- from a to a stop b: nothing, where that may be, or a first piece and what may follow it
abbrev pub Row : Table → Table → Ends → Bool → ℕ → ℕ → Type 0
Row first later stops null a b =
    (((null ≡ true) × (a ≡ b)) ⊎ Joined (Held first) (Held later) a b) × (member stops b ≡ true)
