-- What each kind of shape fits, in plain logic. Assumes nothing.
use Rattle.std.specs.Prelude.{◌≡◌, ℕ, suc, ◌+◌, ◌-◌, ◌<◌, ◌≤◌, true, ◌⊎◌, List, [], ◌∷◌, length, Decides, slice_index}
use Rattle.word.specs.Words.{has}
use Rattle.query.specs.declared.node.Kind.TheVariants.{Symbol, Any, Concat, Exact, Atleast, Atmost, In, Precisely, Noless, Nomore, And, Or, Inorder}
use Rattle.query.specs.Tree.{Query, node, Queries, none, more}
use Rattle.shape.specs.declared.stretch.Stretch.{Stretch}
use Rattle.shape.specs.Fits.{Rule, fits}
use Rattle.shape.specs.Listing.{Lists}

-- q fits (a, b) seen from s
abbrev pub Fits : List ℕ → Query → ℕ → ℕ → ℕ → Type 0
Fits words q s a b = fits words q s a b ≡ true

-- q is one of the parts
abbrev pub Part : Query → Queries → Type 0
Part q none = ⊥
Part q (more r rs) = (q ≡ r) ⊎ Part q rs

-- occurrences one after another from a to b, ending at each of the positions in turn: each of them goes up,
-- and is seen from s if it is the first, else from its own start
abbrev pub Pieces : Rule → ℕ → ℕ → List ℕ → ℕ → Type 0
Pieces P s a [] b = a ≡ b
Pieces P s a (c ∷ cs) b = (a < c) × (P s a c ≡ true) × Pieces P c c cs b

-- the parts one after another, each fitting a stretch seen from s: a ≤ x1 ≤ y1 ≤ x2 ≤ y2 and so on, the last y ≤ b
abbrev pub InTurn : List ℕ → Queries → ℕ → ℕ → ℕ → Type 0
InTurn words none s a b = a ≤ b
InTurn words (more q qs) s a b = (x : ℕ) × (y : ℕ) × (a ≤ x) × (x ≤ y) × Fits words q s x y × InTurn words qs s y b

-- A symbol fits (a, b) just where b is a + 1, there is a step a, and it carries the symbol.
abbrev pub SymbolFits : Type 0
SymbolFits = (words : List ℕ) (n p l : ℕ) (qs : Queries) (s a b : ℕ) →
    Decides (fits words (node Symbol n p l qs) s a b) ((b ≡ suc a) × (a < length words) × (has (slice_index words a) n ≡ true))

-- any fits just where one of its parts does, seen from the same position.
abbrev pub AnyFits : Type 0
AnyFits = (words : List ℕ) (n p l : ℕ) (qs : Queries) (s a b : ℕ) →
    Decides (fits words (node Any n p l qs) s a b) ((q : Query) × Part q qs × Fits words q s a b)

-- concat of one part is that part.
abbrev pub ConcatOfOneFits : Type 0
ConcatOfOneFits = (words : List ℕ) (n p l : ℕ) (q : Query) (s a b : ℕ) →
    fits words (node Concat n p l (more q none)) s a b ≡ fits words q s a b

-- concat of more fits just where there is a c such that its first part fits (a, c) seen from s,
-- and the concat of the others (c, b) seen from c.
abbrev pub ConcatFits : Type 0
ConcatFits = (words : List ℕ) (n p l : ℕ) (q r : Query) (rs : Queries) (s a b : ℕ) →
    Decides (fits words (node Concat n p l (more q (more r rs))) s a b)
    ((c : ℕ) × (a ≤ c) × (c ≤ b) × Fits words q s a c × Fits words (node Concat n p l (more r rs)) c c b)

-- exact k fits just where there is a chain of k occurrences, no z with s ≤ z < a where the part fits (z, a) seen from s,
-- and no y > b on the line where it fits (b, y) seen from b.
abbrev pub ExactFits : Type 0
ExactFits = (words : List ℕ) (k p l : ℕ) (q : Query) (s a b : ℕ) →
    Decides (fits words (node Exact k p l (more q none)) s a b)
    ((cs : List ℕ) × (length cs ≡ k) × Pieces (fits words q) s a cs b
    × ((z : ℕ) → s ≤ z → z < a → Fits words q s z a → ⊥)
    × ((y : ℕ) → b < y → y ≤ length words → Fits words q b b y → ⊥))

-- A chain from a to b has at most b - a pieces.
abbrev pub ChainIsShort : Type 0
ChainIsShort = (P : Rule) (s a b : ℕ) (cs : List ℕ) → Pieces P s a cs b → length cs ≤ b - a

-- atleast k is exact j for some j ≥ k.
abbrev pub AtleastFits : Type 0
AtleastFits = (words : List ℕ) (k p l : ℕ) (q : Query) (s a b : ℕ) →
    Decides (fits words (node Atleast k p l (more q none)) s a b)
    ((j : ℕ) × (k ≤ j) × Fits words (node Exact j p l (more q none)) s a b)

-- atmost k is exact j for some j ≤ k.
abbrev pub AtmostFits : Type 0
AtmostFits = (words : List ℕ) (k p l : ℕ) (q : Query) (s a b : ℕ) →
    Decides (fits words (node Atmost k p l (more q none)) s a b)
    ((j : ℕ) × (j ≤ k) × Fits words (node Exact j p l (more q none)) s a b)

-- in k fits (a, b) just where b is a + k and its part holds of (a, b) seen from s.
abbrev pub InFits : Type 0
InFits = (words : List ℕ) (k p l : ℕ) (q : Query) (s a b : ℕ) →
    Decides (fits words (node In k p l (more q none)) s a b) ((b ≡ a + k) × Fits words q s a b)

-- precisely k, noless k and nomore k hold of (a, b) just where the stretches inside it that are not null and that the part fits,
-- seen from s, all of them listed once, are k, at least k, at most k.
abbrev pub PreciselyFits : Type 0
PreciselyFits = (words : List ℕ) (k p l : ℕ) (q : Query) (s a b : ℕ) →
    Decides (fits words (node Precisely k p l (more q none)) s a b)
    ((xs : List Stretch) × Lists (fits words q s) a b xs × (length xs ≡ k))

abbrev pub NolessFits : Type 0
NolessFits = (words : List ℕ) (k p l : ℕ) (q : Query) (s a b : ℕ) →
    Decides (fits words (node Noless k p l (more q none)) s a b)
    ((xs : List Stretch) × Lists (fits words q s) a b xs × (k ≤ length xs))

abbrev pub NomoreFits : Type 0
NomoreFits = (words : List ℕ) (k p l : ℕ) (q : Query) (s a b : ℕ) →
    Decides (fits words (node Nomore k p l (more q none)) s a b)
    ((xs : List Stretch) × Lists (fits words q s) a b xs × (length xs ≤ k))

-- and holds just where all of its parts do, seen from the same position.
abbrev pub AndFits : Type 0
AndFits = (words : List ℕ) (n p l : ℕ) (qs : Queries) (s a b : ℕ) →
    Decides (fits words (node And n p l qs) s a b) ((q : Query) → Part q qs → Fits words q s a b)

-- or holds just where one of its parts does.
abbrev pub OrFits : Type 0
OrFits = (words : List ℕ) (n p l : ℕ) (qs : Queries) (s a b : ℕ) →
    Decides (fits words (node Or n p l qs) s a b) ((q : Query) × Part q qs × Fits words q s a b)

-- inorder holds just where its parts fit stretches one after another inside (a, b).
abbrev pub InorderFits : Type 0
InorderFits = (words : List ℕ) (n p l : ℕ) (qs : Queries) (s a b : ℕ) →
    Decides (fits words (node Inorder n p l qs) s a b) (InTurn words qs s a b)
