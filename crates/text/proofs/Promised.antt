-- What reading answers is what it promises, and nothing else is.
use Rattle.std.proofs.Common.{◌≡◌, ℕ, ◌<◌, ◌≤◌, Bool, true, false, cond, ◌↔◌, List, [], length, is_ok, Some, None, Ok, Err, Option, Result, sym, refl, ap, ◌∙◌, subst, ap₂, inl, inr, arith}
use Rattle.std.proofs.lemmas.Bool.{cases_lt, cond-true, cond-false, lt-ltb, le-ltb, false≢true, both_ways}
use Rattle.query.specs.declared.node.Node.{Node}
use Rattle.query.specs.Tree.{Query, records}
use Rattle.words.specs.Words.{Stream, ends, bad, word, stream}
use Rattle.words.proofs.Within.{Between, stream_in}
use Rattle.grammar.specs.declared.types.GrammarFault.{GrammarFault}
use Rattle.grammar.specs.declared.types.GrammarFault.TheVariants.{Unexpected, Ended, Number, Limit}
use Rattle.grammar.specs.declared.types.Point.TheVariants.{Inside}
use Rattle.grammar.specs.Machine.{State, state, step, and_then, run, start, done}
use Rattle.grammar.specs.Reading.{Why}
use Rattle.grammar.proofs.Runs.{ok_err, right, right_runs, why, because_stuck, because_number, because_limit, done_follows, follows_done}
use Rattle.grammar.proofs.Trees.{Within, accepts, accepted}
use Rattle.text.specs.declared.shape.ReadShape.{ReadShape}
use Rattle.parser.specs.declared.fault.ReadFault.{ReadFault}
use Rattle.parser.specs.declared.fault.ReadFault.TheVariants.{Sheet, Long, Word, Grammar}
use Rattle.parser.specs.Parsing.{go_on, read_words, parsed}
use Rattle.text.specs.Reading.{padded, reading, answered, refused_sheet, left_in}
use Rattle.text.specs.Promise.{placed, ending, words_of, bad_byte, StandsFor, Readable, Blanked, Whole, Refused, Means}

-- the end of a text behind its words
abbrev closed : Result State GrammarFault → Option ℕ → ℕ → Result State ReadFault
closed (Err f) o size = Err (Grammar f)
closed (Ok S) (Some p) size = Err (Word (record { place = p }))
closed (Ok S) None size = cond (done S) (Ok S) (Err (Grammar (Ended size)))

words_closed : (s : Stream) (size : ℕ) (S : State) → read_words s size S ≡ closed (run (placed s) S) (ending s) size
words_closed ends size S = refl
words_closed (bad p) size S = refl
words_closed (word p l s) size S = go (step S (p, l)) (λ T. words_closed s size T)
  where
    go : (r : Result State GrammarFault) → ((T : State) → read_words s size T ≡ closed (run (placed s) T) (ending s) size) → go_on r (read_words s size) ≡ closed (and_then r (run (placed s))) (ending s) size
    go (Ok T) rest = rest T
    go (Err f) rest = refl

placed_in : (a b : ℕ) (s : Stream) → Between a b s → Within b (placed s)
placed_in a b ends h = tt
placed_in a b (bad p) h = tt
placed_in a b (word p l s) h = (h.1, placed_in a b s h.2)

words_in : (text : List ℕ) → Within (length text) (words_of text)
words_in text = placed_in 0 (length text) (stream 0 text) (stream_in 0 (length text) text (omega arith))

module _ (text : List ℕ) (before : List Node) where
  abbrev pub found : Result State ReadFault
  found = reading text (length before)

  found_sheet : length before < 64 → found ≡ Err Sheet
  found_sheet h = cond-true _ _ _ (lt-ltb (length before) 64 h)

  found_long : 64 ≤ length before → 4096 < length text → found ≡ Err Long
  found_long h l = cond-false _ _ _ (le-ltb (length before) 64 h) ∙ cond-true _ _ _ (lt-ltb 4096 (length text) l)

  found_words : 64 ≤ length before → length text ≤ 4096 → found ≡ closed (run (words_of text) start) (bad_byte text) (length text)
  found_words h l = cond-false _ _ _ (le-ltb (length before) 64 h) ∙ cond-false _ _ _ (le-ltb 4096 (length text) l) ∙ words_closed (stream 0 text) (length text) start

  -- what is meant by an outcome
  abbrev pub RightFor : Result State ReadFault → Type 0
  RightFor x = Means (answered x) text before (left_in x before)

  blanked : 64 ≤ length before → Blanked before (padded [] (length before))
  blanked h = record { room = h; blanks = refl }

  why_not : (f : GrammarFault) → 64 ≤ length before → length text ≤ 4096 → run (words_of text) start ≡ Err f → Refused (Grammar f) text before (padded [] (length before))
  why_not (Unexpected p) h l e = (blanked h, l, tt, why (words_of text) (length text) (Unexpected p) e)
  why_not (Ended p) h l e =
      let r = right_runs (words_of text) (why (words_of text) (length text) (Ended p) e).0 in
      absurd (ok_err r.0 (Ended p) (sym r.1 ∙ e))
  why_not (Number p) h l e = (blanked h, l, tt, why (words_of text) (length text) (Number p) e)
  why_not (Limit p) h l e = (blanked h, l, tt, why (words_of text) (length text) (Limit p) e)

  outcome_right : 64 ≤ length before → length text ≤ 4096 → (r : Result State GrammarFault) (o : Option ℕ) → run (words_of text) start ≡ r → bad_byte text ≡ o → RightFor (closed r o (length text))
  outcome_right h l (Err f) o e b = why_not f h l e
  outcome_right h l (Ok S) (Some p) e b = (blanked h, l, b, right (words_of text) S e)
  outcome_right h l (Ok S) None e b = go (done S) refl
    where
      go : (t : Bool) → done S ≡ t → RightFor (cond t (Ok S) (Err (Grammar (Ended (length text)))))
      go true d =
          let a = accepted (words_of text) (length text) S (words_in text) e d in
          record {
            room = h;
            query = a.0;
            stands = record { short = l; clean = b; spells = a.1 };
            counts = ap (λ (T : State). length T.out) a.2;
            holds = ap (λ (T : State). padded T.out (length before)) a.2;
          }
      go false d = (blanked h, l, b, (right (words_of text) S e, (λ f. both_ways (done S) d (follows_done (words_of text) S e f)), refl))

  -- the outcome is right
  pub found_right : RightFor found
  found_right = elim (cases_lt (length before) 64) [
    | inl s ↦ subst RightFor (sym (found_sheet s)) (s, refl)
    | inr h ↦ elim (cases_lt 4096 (length text)) [
      | inl l ↦ subst RightFor (sym (found_long h l)) (blanked h, l)
      | inr l ↦ subst RightFor (sym (found_words h l)) (outcome_right h l (run (words_of text) start) (bad_byte text) refl refl)
    ]
  ]

  -- an answer and a sheet are those of an outcome
  abbrev pub Of : Result ReadShape ReadFault → List Node → Type 0
  Of r after = (r ≡ answered found) × (after ≡ left_in found before)

  of : (x : Result State ReadFault) (r : Result ReadShape ReadFault) (after : List Node) → found ≡ x → r ≡ answered x → after ≡ left_in x before → Of r after
  of x r after e a s = (a ∙ ap answered (sym e), s ∙ ap (λ y. left_in y before) (sym e))

  stands_found : (q : Query) → 64 ≤ length before → StandsFor q text → found ≡ Ok (state Inside [] (records q))
  stands_found q h s =
      found_words h s.short
      ∙ ap₂ (λ r o. closed r o (length text)) (accepts (words_of text) (length text) q s.spells) s.clean

  grammar_found : (f : GrammarFault) → 64 ≤ length before → length text ≤ 4096 → Whole f text → Why f (words_of text) (length text) → found ≡ Err (Grammar f)
  grammar_found (Unexpected p) h l w y = found_words h l ∙ ap (λ r. closed r (bad_byte text) (length text)) (because_stuck (words_of text) p y)
  grammar_found (Ended p) h l w y =
      let r = right_runs (words_of text) y.0 in
      found_words h l
      ∙ ap₂ (λ x o. closed x o (length text)) r.1 w
      ∙ cond-false (done r.0) _ _ (go (done r.0) refl r.1)
      ∙ ap (λ n. Err (Grammar (Ended n))) (sym y.2)
    where
      go : {S : State} (t : Bool) → done S ≡ t → run (words_of text) start ≡ Ok S → done S ≡ false
      go {S} true d e = absurd (y.1 (done_follows (words_of text) S e d))
      go {S} false d e = d
  grammar_found (Number p) h l w y = found_words h l ∙ ap (λ r. closed r (bad_byte text) (length text)) (because_number (words_of text) p y)
  grammar_found (Limit p) h l w y = found_words h l ∙ ap (λ r. closed r (bad_byte text) (length text)) (because_limit (words_of text) p y)

  refused_only : (f : ReadFault) (after : List Node) → Refused f text before after → Of (Err f) after
  refused_only Sheet after m = of (Err Sheet) _ _ (found_sheet m.0) refl m.1
  refused_only Long after m = of (Err Long) _ _ (found_long m.0.room m.1) refl m.0.blanks
  refused_only (Word f) after m =
      let r = right_runs (words_of text) m.3 in
      of (Err (Word f)) _ _ (found_words m.0.room m.1 ∙ ap₂ (λ x o. closed x o (length text)) r.1 m.2) refl m.0.blanks
  refused_only (Grammar f) after m = of (Err (Grammar f)) _ _ (grammar_found f m.0.room m.1 m.2 m.3) refl m.0.blanks

  -- no other answer is
  pub found_only : (r : Result ReadShape ReadFault) (after : List Node) → Means r text before after → Of r after
  found_only (Ok s) after m =
      of (Ok (state Inside [] (records m.query))) _ _ (stands_found m.query m.room m.stands) (ap (λ n. Ok (record { records = n })) m.counts) m.holds
  found_only (Err f) after m = refused_only f after m

  pub found_accepts : (is_ok (answered found) ≡ true) ↔ Readable text (length before)
  found_accepts = (
    (λ e. go found found_right e),
    (λ h. ap (λ x. is_ok (answered x)) (stands_found h.1 h.0 h.2)),
  )
    where
      go : (x : Result State ReadFault) → RightFor x → is_ok (answered x) ≡ true → Readable text (length before)
      go (Ok S) m e = (m.room, m.query, m.stands)
      go (Err f) m e = absurd (false≢true e)

  -- a promise of an outcome is one of its answer and its sheet
  pub promised : (r : Result ReadShape ReadFault) (after : List Node) → Of r after → Means r text before after
  promised r after o = subst (λ x. Means x text before after) (sym o.0) (subst (Means (answered found) text before) (sym o.1) found_right)

  pub promised_only : (r : Result ReadShape ReadFault) (after : List Node) → Of r after → (other : Result ReadShape ReadFault) (then : List Node) → Means other text before then → (other ≡ r) × (then ≡ after)
  promised_only r after o other then m = let f = found_only other then m in (f.0 ∙ sym o.0, f.1 ∙ sym o.1)

  pub promised_accepts : (r : Result ReadShape ReadFault) (after : List Node) → Of r after → (is_ok r ≡ true) ↔ Readable text (length before)
  promised_accepts r after o = subst (λ x. (is_ok x ≡ true) ↔ Readable text (length before)) (sym o.0) found_accepts

  found_parsed : 64 ≤ length before → found ≡ parsed text
  found_parsed h = cond-false _ _ _ (le-ltb (length before) 64 h)

  -- what is answered and left where there is room
  pub of_read : (S : State) → 64 ≤ length before → parsed text ≡ Ok S → Of (answered (Ok S)) (padded S.out (length before))
  of_read S h e = of (Ok S) _ _ (found_parsed h ∙ e) refl refl

  pub of_refused : (f : ReadFault) → 64 ≤ length before → parsed text ≡ Err f → Of (Err f) (padded [] (length before))
  of_refused f h e = of (Err f) _ _ (found_parsed h ∙ e) refl (go f (found_parsed h ∙ e))
    where
      go : (g : ReadFault) → found ≡ Err g → padded [] (length before) ≡ refused_sheet g before
      go Sheet e = absurd (let w = (subst RightFor e found_right).0 in omega arith)
      go Long e = refl
      go (Word g) e = refl
      go (Grammar g) e = refl
