-- Each word of a text lies in it.
use Rattle.std.proofs.Common.{◌≡◌, ℕ, suc, ◌+◌, ◌≤◌, Bool, true, false, List, [], ◌∷◌, length, arith}
use Rattle.words.specs.declared.Class.{Class}
use Rattle.words.specs.declared.Class.TheVariants.{Blank, Letter, Digit, Open, Close, Other}
use Rattle.words.specs.Words.{class, begins, Lexeme, name, number, opens, closes, Stream, ends, bad, word, grow, glued, front, stream, size}

-- each word stands from one place on, and ends at another at most
abbrev pub Between : ℕ → ℕ → Stream → Type 0
Between a b ends = Unit {0}
Between a b (bad p) = Unit {0}
Between a b (word p l s) = (a ≤ p) × (p + size l ≤ b) × Between a b s

earlier : (a b : ℕ) (s : Stream) → Between (a + 1) b s → Between a b s
earlier a b ends h = tt
earlier a b (bad p) h = tt
earlier a b (word p l s) h = let x = h.0 in (omega arith, h.1, earlier a b s h.2)

grown : (l : Lexeme) (c : ℕ) → size (grow l c) ≤ suc (size l)
grown (name bs) c = omega arith
grown (number bs) c = omega arith
grown opens c = omega arith
grown closes c = omega arith

glued_in : (t : Bool) (one : Lexeme) (p b c : ℕ) (s : Stream) → size one ≡ 1 → p + 1 ≤ b → Between (p + 1) b s → Between p b (glued t one p c s)
glued_in false one p b c s e h w = (omega arith, omega arith, earlier p b s w)
glued_in true one p b c ends e h w = tt
glued_in true one p b c (bad q) e h w = tt
glued_in true one p b c (word q l s) e h w = let x = w.0 in let y = w.1 in let z = grown l c in (omega arith, omega arith, earlier p b s w.2)

front_in : (k : Class) (p b c : ℕ) (cs : List ℕ) (s : Stream) → p + 1 ≤ b → Between (p + 1) b s → Between p b (front k p c cs s)
front_in Blank p b c cs s h w = earlier p b s w
front_in Letter p b c cs s h w = glued_in (begins Letter cs) (name (c ∷ [])) p b c s (omega arith) h w
front_in Digit p b c cs s h w = glued_in (begins Digit cs) (number (c ∷ [])) p b c s (omega arith) h w
front_in Open p b c cs s h w = (omega arith, h, earlier p b s w)
front_in Close p b c cs s h w = (omega arith, h, earlier p b s w)
front_in Other p b c cs s h w = tt

pub stream_in : (p b : ℕ) (bs : List ℕ) → p + length bs ≤ b → Between p b (stream p bs)
stream_in p b [] h = tt
stream_in p b (c ∷ cs) h = front_in (class c) p b c cs (stream (p + 1) cs) (omega arith) (stream_in (p + 1) b cs (omega arith))
