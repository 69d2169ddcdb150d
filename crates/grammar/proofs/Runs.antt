-- A run over words stops at the first that is wrong, for just what is wrong with it.
use Rattle.std.proofs.Common.{◌≡◌, ℕ, Bool, true, false, cond, List, [], ◌∷◌, ◌++◌, Some, None, Ok, Err, Option, Result, sym, refl, ap, ◌∙◌, subst, arith}
use Rattle.std.proofs.lemmas.Option.{none-some}
use Rattle.std.proofs.lemmas.Bool.{and_parts, and_from, cond-true, cond-false, both_ways}
use Rattle.words.specs.Words.{Lexeme, name, number, opens, closes}
use Rattle.grammar.specs.declared.types.GrammarFault.{GrammarFault}
use Rattle.grammar.specs.declared.types.GrammarFault.TheVariants.{Unexpected, Number, Limit}
use Rattle.grammar.specs.Spelling.{Placed, said, said_by, Follows}
use Rattle.grammar.specs.Limits.{Tally, nothing, note, tally, number_fits, name_fits, fits, all_fit}
use Rattle.grammar.specs.Machine.{State, move, number_right, room, checked, step, and_then, run, start, done}
use Rattle.grammar.specs.Reading.{Right, First, GoesOn, Stuck, NumberWrong, OverLimit, Why}
use Rattle.grammar.proofs.Forward.{moves, moves_append, moves_none, some_same}
use Rattle.grammar.proofs.Language.{begins, goes, finishes, follows}
use Rattle.grammar.proofs.Counting.{Agrees, move_agrees, moves_agree, start_agrees, number_same, room_same}

pub said_append : (xs ys : List Placed) → said (xs ++ ys) ≡ said xs ++ said ys
said_append [] ys = refl
said_append (x ∷ xs) ys = ap (λ l. said_by x ∷ l) (said_append xs ys)

pub ok_err : (S : State) (f : GrammarFault) → Ok S ≡ Err f → ⊥
ok_err S f e = let z : ◌≡◌ {A = ℕ} 0 1 = cc in omega arith

pub ok_same : (S T : State) → ◌≡◌ {A = Result State GrammarFault} (Ok S) (Ok T) → S ≡ T
ok_same S T e = cc

pub err_same : (f g : GrammarFault) → ◌≡◌ {A = Result State GrammarFault} (Err f) (Err g) → f ≡ g
err_same f g e = cc

pub run_append : (xs ys : List Placed) (S : State) → run (xs ++ ys) S ≡ and_then (run xs S) (run ys)
run_append [] ys S = refl
run_append (x ∷ xs) ys S = go (step S x) (λ T. run_append xs ys T)
  where
    go : (r : Result State GrammarFault) → ((T : State) → run (xs ++ ys) T ≡ and_then (run xs T) (run ys)) → and_then r (run (xs ++ ys)) ≡ and_then (and_then r (run xs)) (run ys)
    go (Ok T) rest = rest T
    go (Err f) rest = refl

-- a word that may stand and is within the limits is taken
step_ok : (t : Tally) (S T : State) (w : Placed) → Agrees t S → move S (said_by w) ≡ Some T → fits t w ≡ true → step S w ≡ Ok T
step_ok t S T w a m f =
    let h = and_parts (number_fits t w.1) (name_fits t (said_by w)) f in
    ap (λ o. checked o S w) m
    ∙ cond-true (number_right S w.1) _ _ (number_same t S T w a m ∙ h.0)
    ∙ cond-true (room S w.1) _ _ (room_same t S T w a m ∙ h.1)

-- what a word that was taken has
step_took : (t : Tally) (S T : State) (w : Placed) → Agrees t S → step S w ≡ Ok T → (move S (said_by w) ≡ Some T) × (fits t w ≡ true)
step_took t S T w a e = go (move S (said_by w)) refl e
  where
    go : (o : Option State) → move S (said_by w) ≡ o → checked o S w ≡ Ok T → (move S (said_by w) ≡ Some T) × (fits t w ≡ true)
    go None m e = absurd (ok_err T (Unexpected w.0) (sym e))
    go (Some U) m e = check (number_right S w.1) refl (room S w.1) refl e
      where
        check : (n : Bool) → number_right S w.1 ≡ n → (r : Bool) → room S w.1 ≡ r → cond n (cond r (Ok U) (Err (Limit w.0))) (Err (Number w.0)) ≡ Ok T → (move S (said_by w) ≡ Some T) × (fits t w ≡ true)
        check true n true r e = (m ∙ ap (λ V. Some V) (ok_same U T e), and_from _ _ (sym (number_same t S U w a m) ∙ n) (sym (room_same t S U w a m) ∙ r))
        check true n false r e = absurd (ok_err T (Limit w.0) (sym e))
        check false n r q e = absurd (ok_err T (Number w.0) (sym e))

-- words that can be read and are within the limits are all taken
pub runs : (ws : List Placed) (t : Tally) (S T : State) → Agrees t S → all_fit t ws ≡ true → moves (said ws) (Some S) ≡ Some T → run ws S ≡ Ok T
runs [] t S T a f e = ap (λ U. Ok U) (some_same S T e)
runs (w ∷ ws) t S T a f e =
    let h = and_parts (fits t w) (all_fit (note t (said_by w)) ws) f in
    go (move S (said_by w)) refl e h.0 (λ U b. runs ws (note t (said_by w)) U T b h.1)
  where
    go : (o : Option State) → move S (said_by w) ≡ o → moves (said ws) o ≡ Some T → fits t w ≡ true → ((U : State) → Agrees (note t (said_by w)) U → moves (said ws) (Some U) ≡ Some T → run ws U ≡ Ok T) → run (w ∷ ws) S ≡ Ok T
    go None m e f rest = absurd (none-some T (sym (moves_none (said ws)) ∙ e))
    go (Some U) m e f rest = ap (λ r. and_then r (run ws)) (step_ok t S U w a m f) ∙ rest U (move_agrees t S U (said_by w) a m) e

-- words that were all taken can be read and are within the limits
pub took : (ws : List Placed) (t : Tally) (S T : State) → Agrees t S → run ws S ≡ Ok T → (moves (said ws) (Some S) ≡ Some T) × (all_fit t ws ≡ true)
took [] t S T a e = (ap (λ U. Some U) (ok_same S T e), refl)
took (w ∷ ws) t S T a e = go (step S w) refl e (λ U b. took ws (note t (said_by w)) U T b)
  where
    go : (r : Result State GrammarFault) → step S w ≡ r → and_then r (run ws) ≡ Ok T → ((U : State) → Agrees (note t (said_by w)) U → run ws U ≡ Ok T → (moves (said ws) (Some U) ≡ Some T) × (all_fit (note t (said_by w)) ws ≡ true)) →
        (moves (said (w ∷ ws)) (Some S) ≡ Some T) × (all_fit t (w ∷ ws) ≡ true)
    go (Ok U) s e rest =
        let h = step_took t S U w a s in
        let r = rest U (move_agrees t S U (said_by w) a h.0) e in
        (ap (moves (said ws)) h.0 ∙ r.0, and_from _ _ h.1 r.1)
    go (Err f) s e rest = absurd (ok_err T f (sym e))

-- the words so far are right just where all are taken
pub right : (ws : List Placed) (S : State) → run ws start ≡ Ok S → Right ws
right ws S e = let h = took ws nothing start S start_agrees e in record { begins = begins (said ws) S h.0; within = h.1 }

pub right_runs : (ws : List Placed) → Right ws → (S : State) × (run ws start ≡ Ok S)
right_runs ws r = let g = goes (said ws) r.begins in (g.0, runs ws nothing start g.0 start_agrees r.within g.1)

-- a word behind words that were taken
module _ (before : List Placed) (S : State) (w : Placed) (e : run before start ≡ Ok S) where
  reads : moves (said before) (Some start) ≡ Some S
  reads = (took before nothing start S start_agrees e).0

  agrees : Agrees (tally (said before)) S
  agrees = moves_agree (said before) nothing start S start_agrees reads

  on : moves (said (before ++ w ∷ [])) (Some start) ≡ move S (said_by w)
  on = ap (λ l. moves l (Some start)) (said_append before (w ∷ [])) ∙ moves_append (said before) (said_by w ∷ []) (Some start) ∙ ap (moves (said_by w ∷ [])) reads

  goes_on : (T : State) → move S (said_by w) ≡ Some T → GoesOn before w
  goes_on T m = begins (said (before ++ w ∷ [])) T (on ∙ m)

  stuck : move S (said_by w) ≡ None → Stuck before w
  stuck m b = let g = goes (said (before ++ w ∷ [])) b in none-some g.0 (sym m ∙ sym on ∙ g.1)

  moved : GoesOn before w → (T : State) × (move S (said_by w) ≡ Some T)
  moved b = let g = goes (said (before ++ w ∷ [])) b in (g.0, sym on ∙ g.1)

  first : (Wrong : List Placed → Placed → Type 0) (after : List Placed) → Wrong before w → First Wrong (before ++ w ∷ after) w.0
  first Wrong after x = record { before = before; word = w; after = after; splits = refl; place = refl; right = right before S e; wrong = x }

  -- why a word is not taken
  step_why : (after : List Placed) (size : ℕ) (f : GrammarFault) → step S w ≡ Err f → Why f (before ++ w ∷ after) size
  step_why after size f e = go (move S (said_by w)) refl e
    where
      go : (o : Option State) → move S (said_by w) ≡ o → checked o S w ≡ Err f → Why f (before ++ w ∷ after) size
      go None m e = subst (λ g. Why g (before ++ w ∷ after) size) (err_same (Unexpected w.0) f e) (first Stuck after (stuck m))
      go (Some T) m e = check (number_right S w.1) refl (room S w.1) refl e
        where
          check : (n : Bool) → number_right S w.1 ≡ n → (r : Bool) → room S w.1 ≡ r → cond n (cond r (Ok T) (Err (Limit w.0))) (Err (Number w.0)) ≡ Err f → Why f (before ++ w ∷ after) size
          check true n true r e = absurd (ok_err T f e)
          check true n false r e =
              subst (λ g. Why g (before ++ w ∷ after) size) (err_same (Limit w.0) f e)
              (first OverLimit after (goes_on T m, sym (room_same (tally (said before)) S T w agrees m) ∙ r))
          check false n r q e =
              subst (λ g. Why g (before ++ w ∷ after) size) (err_same (Number w.0) f e)
              (first NumberWrong after (goes_on T m, sym (number_same (tally (said before)) S T w agrees m) ∙ n))

  -- a word that nothing can follow is not taken
  step_stuck : Stuck before w → step S w ≡ Err (Unexpected w.0)
  step_stuck s = go (move S (said_by w)) refl
    where
      go : (o : Option State) → move S (said_by w) ≡ o → step S w ≡ Err (Unexpected w.0)
      go None m = ap (λ o. checked o S w) m
      go (Some T) m = absurd (s (goes_on T m))

  -- nor is a wrong number
  step_number : NumberWrong before w → step S w ≡ Err (Number w.0)
  step_number x =
      let m = moved x.0 in
      ap (λ o. checked o S w) m.1 ∙ cond-false (number_right S w.1) _ _ (number_same (tally (said before)) S m.0 w agrees m.1 ∙ x.1)

  -- nor a name over the limits
  step_limit : OverLimit before w → step S w ≡ Err (Limit w.0)
  step_limit x =
      let m = moved x.0 in
      ap (λ o. checked o S w) m.1
      ∙ cond-true (number_right S w.1) _ _ (number_same (tally (said before)) S m.0 w agrees m.1 ∙ names_right w.1 x.1)
      ∙ cond-false (room S w.1) _ _ (room_same (tally (said before)) S m.0 w agrees m.1 ∙ x.1)
    where
      names_right : (l : Lexeme) → name_fits (tally (said before)) (said_by (w.0, l)) ≡ false → number_fits (tally (said before)) l ≡ true
      names_right (name bs) z = refl
      names_right (number bs) z = absurd (both_ways true z refl)
      names_right opens z = refl
      names_right closes z = refl

-- where a run stops
stops : (ws : List Placed) (S : State) (f : GrammarFault) → run ws S ≡ Err f →
    (before : List Placed) × (w : Placed) × (after : List Placed) × (T : State) × (ws ≡ before ++ w ∷ after) × (run before S ≡ Ok T) × (step T w ≡ Err f)
stops [] S f e = absurd (ok_err S f e)
stops (w ∷ ws) S f e = go (step S w) refl e (λ U. stops ws U f)
  where
    go : (r : Result State GrammarFault) → step S w ≡ r → and_then r (run ws) ≡ Err f →
        ((U : State) → run ws U ≡ Err f → (before : List Placed) × (x : Placed) × (after : List Placed) × (T : State) × (ws ≡ before ++ x ∷ after) × (run before U ≡ Ok T) × (step T x ≡ Err f)) →
        (before : List Placed) × (x : Placed) × (after : List Placed) × (T : State) × (w ∷ ws ≡ before ++ x ∷ after) × (run before S ≡ Ok T) × (step T x ≡ Err f)
    go (Ok U) s e rest =
        let h = rest U e in
        (w ∷ h.0, h.1, h.2, h.3, ap (λ l. w ∷ l) h.4, ap (λ r. and_then r (run h.0)) s ∙ h.5, h.6)
    go (Err g) s e rest = ([], w, ws, S, refl, refl, s ∙ e)

-- a refusal tells what is wrong
pub why : (ws : List Placed) (size : ℕ) (f : GrammarFault) → run ws start ≡ Err f → Why f ws size
why ws size f e =
    let h = stops ws start f e in
    subst (λ l. Why f l size) (sym h.4) (step_why h.0 h.3 h.1 h.5 h.2 size f h.6)

-- a run up to a word that is not taken
stops_at : {Wrong : List Placed → Placed → Type 0} (ws : List Placed) (p : ℕ) (mk : ℕ → GrammarFault) → ((before : List Placed) (S : State) (w : Placed) → run before start ≡ Ok S → Wrong before w → step S w ≡ Err (mk w.0)) →
    First Wrong ws p → run ws start ≡ Err (mk p)
stops_at ws p mk bad h =
    let r = right_runs h.before h.right in
    ap (λ l. run l start) h.splits
    ∙ run_append h.before (h.word ∷ h.after) start
    ∙ ap (λ x. and_then x (run (h.word ∷ h.after))) r.1
    ∙ ap (λ x. and_then x (run h.after)) (bad h.before r.0 h.word r.1 h.wrong)
    ∙ ap (λ q. Err (mk q)) h.place

-- what is wrong makes the refusal
pub because_stuck : (ws : List Placed) (p : ℕ) → First Stuck ws p → run ws start ≡ Err (Unexpected p)
because_stuck ws p = stops_at ws p (λ q. Unexpected q) (λ before S w e. step_stuck before S w e)

pub because_number : (ws : List Placed) (p : ℕ) → First NumberWrong ws p → run ws start ≡ Err (Number p)
because_number ws p = stops_at ws p (λ q. Number q) (λ before S w e. step_number before S w e)

pub because_limit : (ws : List Placed) (p : ℕ) → First OverLimit ws p → run ws start ≡ Err (Limit p)
because_limit ws p = stops_at ws p (λ q. Limit q) (λ before S w e. step_limit before S w e)

-- all of a text was read just where its words follow the grammar
pub done_follows : (ws : List Placed) (S : State) → run ws start ≡ Ok S → done S ≡ true → Follows (said ws)
done_follows ws S e d = follows (said ws) S (took ws nothing start S start_agrees e).0 d

pub follows_done : (ws : List Placed) (S : State) → run ws start ≡ Ok S → Follows (said ws) → done S ≡ true
follows_done ws S e f = finishes (said ws) S f (took ws nothing start S start_agrees e).0
