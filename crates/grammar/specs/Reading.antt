-- What is right and what is wrong with the words of a text, in the words of the grammar. Assumes nothing.
use Rattle.std.specs.Prelude.{◌≡◌, ℕ, Bool, true, false, not, ◌&&◌, List, [], ◌∷◌, ◌++◌}
use Rattle.query.specs.declared.node.Stage.TheVariants.{Read}
use Rattle.query.specs.Tree.{Query}
use Rattle.query.specs.Rules.{well}
use Rattle.words.specs.Words.{name, number, opens, closes}
use Rattle.grammar.specs.declared.types.GrammarFault.{GrammarFault}
use Rattle.grammar.specs.declared.types.GrammarFault.TheVariants.{Unexpected, Ended, Number, Limit}
use Rattle.grammar.specs.Names.{extra_zero}
use Rattle.grammar.specs.Spelling.{Placed, said, said_by, spell, Follows, Begins}
use Rattle.grammar.specs.Limits.{nothing, tally, number_fits, name_fits, all_fit}

-- no number among the words has an extra zero
abbrev pub plain : List Placed → Bool
plain [] = true
plain ((p, name bs) ∷ ws) = plain ws
plain ((p, number bs) ∷ ws) = not (extra_zero bs) && plain ws
plain ((p, opens) ∷ ws) = plain ws
plain ((p, closes) ∷ ws) = plain ws

-- the words of a text of so many bytes spell a query within the limits, its numbers written without extra zeros
pub record Spells (size : ℕ) (q : Query) (ws : List Placed) : Type 0 where
  pub spelling : spell q [] ≡ said ws
  pub limited : well (Read size) q ≡ true
  pub plainly : plain ws ≡ true

-- the words are right so far: more can follow, and each is within the limits
pub record Right (ws : List Placed) : Type 0 where
  pub begins : Begins (said ws)
  pub within : all_fit nothing ws ≡ true

-- the word at place p is the first that is wrong, and this is what is wrong with it behind the words before it
pub record First (Wrong : List Placed → Placed → Type 0) (ws : List Placed) (p : ℕ) : Type 0 where
  pub before : List Placed
  pub word : Placed
  pub after : List Placed
  pub splits : ws ≡ before ++ word ∷ after
  pub place : word.0 ≡ p
  pub right : Right before
  pub wrong : Wrong before word

-- more can follow behind the word, as far as the grammar goes
abbrev pub GoesOn : List Placed → Placed → Type 0
GoesOn before w = Begins (said (before ++ w ∷ []))

-- nothing can follow
abbrev pub Stuck : List Placed → Placed → Type 0
Stuck before w = GoesOn before w → ⊥

-- the word may stand here, but its number is over 255, has an extra zero, or is a length of 0
abbrev pub NumberWrong : List Placed → Placed → Type 0
NumberWrong before w = GoesOn before w × (number_fits (tally (said before)) w.1 ≡ false)

-- the word may stand here, but is the 65th name or stands at the 17th level
abbrev pub OverLimit : List Placed → Placed → Type 0
OverLimit before w = GoesOn before w × (name_fits (tally (said before)) (said_by w) ≡ false)

-- why the words of a text of so many bytes are refused
abbrev pub Why : GrammarFault → List Placed → ℕ → Type 0
Why (Unexpected p) ws size = First Stuck ws p
Why (Ended p) ws size = Right ws × (Follows (said ws) → ⊥) × (p ≡ size)
Why (Number p) ws size = First NumberWrong ws p
Why (Limit p) ws size = First OverLimit ws p
