-- The words that a text is cut into. Assumes nothing.
use Rattle.std.specs.Prelude.{ℕ, suc, ◌+◌, Bool, true, false, cond, ◌||◌, List, [], ◌∷◌, length, ◌==◌}
use Rattle.std.specs.Char.{is_ascii_digit, is_ascii_alphabetic}
use Rattle.words.specs.declared.Class.{Class}
use Rattle.words.specs.declared.Class.TheVariants.{Blank, Letter, Digit, Open, Close, Other}
use Rattle.words.specs.declared.Token.{Token}
use Rattle.words.specs.declared.Token.TheVariants.{Name, Number, Opens, Closes}

-- space, tab, carriage return and line feed
abbrev pub blank : ℕ → Bool
blank b = b == 32 || b == 9 || b == 13 || b == 10

-- what a byte is: an ASCII letter, an ASCII digit, a parenthesis, a blank, or a byte of no text
abbrev pub class : ℕ → Class
class b = cond (is_ascii_alphabetic b) Letter (cond (is_ascii_digit b) Digit (cond (b == 40) Open (cond (b == 41) Close (cond (blank b) Blank Other))))

abbrev pub class_number : Class → ℕ
class_number Blank = 0
class_number Letter = 1
class_number Digit = 2
class_number Open = 3
class_number Close = 4
class_number Other = 5

-- whether two classes are one
abbrev pub same : Class → Class → Bool
same k c = class_number k == class_number c

-- how many bytes of class k stand in front
abbrev pub row : Class → List ℕ → ℕ
row k [] = 0
row k (b ∷ bs) = cond (same k (class b)) (suc (row k bs)) 0

-- whether a byte of class k stands in front
abbrev pub begins : Class → List ℕ → Bool
begins k [] = false
begins k (b ∷ bs) = same k (class b)

-- a word: a row of letters, a row of digits, or a parenthesis
pub data Lexeme : Type 0 where
  name number : List ℕ → Lexeme
  opens closes : Lexeme

-- what a text is cut into: it ends; or a byte that belongs to no text stands at a place; or a word stands at a place, and more follows
pub data Stream : Type 0 where
  ends : Stream
  bad : ℕ → Stream
  word : ℕ → Lexeme → Stream → Stream

-- a row with one more byte in front
abbrev pub grow : Lexeme → ℕ → Lexeme
grow (name bs) b = name (b ∷ bs)
grow (number bs) b = number (b ∷ bs)
grow opens b = opens
grow closes b = closes

-- byte b at place p, by itself the word `one`: it joins the row that follows it, where one does
abbrev pub glued : Bool → Lexeme → ℕ → ℕ → Stream → Stream
glued false one p b s = word p one s
glued true one p b ends = ends
glued true one p b (bad q) = bad q
glued true one p b (word q l s) = word p (grow l b) s

-- byte b of a class at place p, in front of the bytes bs, whose words are s
abbrev pub front : Class → ℕ → ℕ → List ℕ → Stream → Stream
front Blank p b bs s = s
front Letter p b bs s = glued (begins Letter bs) (name (b ∷ [])) p b s
front Digit p b bs s = glued (begins Digit bs) (number (b ∷ [])) p b s
front Open p b bs s = word p opens s
front Close p b bs s = word p closes s
front Other p b bs s = bad p

-- the words of the bytes that stand at place p of a text
abbrev pub stream : ℕ → List ℕ → Stream
stream p [] = ends
stream p (b ∷ bs) = front (class b) p b bs (stream (p + 1) bs)

-- how many bytes a word has
abbrev pub size : Lexeme → ℕ
size (name bs) = length bs
size (number bs) = length bs
size opens = 1
size closes = 1

-- the word that a token holds
abbrev pub lexeme : Token → Lexeme
lexeme (Name bs) = name bs.now
lexeme (Number bs) = number bs.now
lexeme Opens = opens
lexeme Closes = closes
