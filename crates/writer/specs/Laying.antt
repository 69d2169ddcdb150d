-- A query written record by record, with the parentheses that are open. Assumes nothing.
use Rattle.std.specs.Prelude.{◌≡◌, ℕ, zero, suc, pred, cond, List, [], ◌∷◌, ◌++◌, length}
use Rattle.query.specs.declared.node.Node.{Node}
use Rattle.fixed.specs.Items.{piled}
use Rattle.grammar.specs.Spelling.{is_symbol}
use Rattle.writer.specs.declared.Pen.{Pen}
use Rattle.writer.specs.Writing.{record_text, Wrote}

-- how many parts each open parenthesis still has ahead, the innermost first
abbrev pub open_now : Pen → List ℕ
open_now p = piled p.left

-- a pen put bytes behind those before, into the same buffer, and has these parentheses open
pub record Puts (before after : Pen) (left bytes : List ℕ) : Type 0 where
  pub same : after.out.ghost_name ≡ before.out.ghost_name
  pub stack : open_now after ≡ left
  pub wrote : Wrote before.out.now before.at bytes after.out.now after.at
  pub size : length after.out.now ≡ length before.out.now

-- a space in front of each part
abbrev pub gap : List ℕ → List ℕ
gap [] = []
gap (m ∷ ms) = 32 ∷ []

-- the innermost parenthesis has one part less ahead
abbrev pub begun : List ℕ → List ℕ
begun [] = []
begun (m ∷ ms) = pred m ∷ ms

-- the parentheses without a part ahead close, from the innermost on
abbrev pub shut_text : List ℕ → List ℕ
shut_text [] = []
shut_text (zero ∷ ms) = 41 ∷ shut_text ms
shut_text (suc m ∷ ms) = []

abbrev pub shut_stack : List ℕ → List ℕ
shut_stack [] = []
shut_stack (zero ∷ ms) = shut_stack ms
shut_stack (suc m ∷ ms) = suc m ∷ ms

-- a record opens a parenthesis, unless it is a symbol
abbrev pub pushed : Node → List ℕ → List ℕ
pushed x ms = cond (is_symbol x.kind) ms (x.parts ∷ ms)

-- what a record is written as, with these parentheses open
abbrev pub one_text : List (List ℕ) → Node → List ℕ → List ℕ
one_text names x ms = gap ms ++ (record_text names x.kind x.number ++ shut_text (pushed x (begun ms)))

-- the parentheses that are open then
abbrev pub open_after : Node → List ℕ → List ℕ
open_after x ms = shut_stack (pushed x (begun ms))

-- the text of records, with these parentheses open
abbrev pub laid : List (List ℕ) → List ℕ → List Node → List ℕ
laid names ms [] = []
laid names ms (x ∷ xs) =
    gap ms
    ++ (record_text names x.kind x.number
    ++ (shut_text (pushed x (begun ms)) ++ laid names (shut_stack (pushed x (begun ms))) xs))
