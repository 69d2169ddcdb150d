-- Texts whose reading and binding is computed.
use Rattle.std.proofs.Common.{◌≡◌, ℕ, Bool, true, false, ◌&&◌, List, map, length, take, replicate, Some, None, Ok, Err, Option, Result, sym, refl, ap, ◌∙◌, subst}
use Rattle.std.proofs.lemmas.List.{take_at}
use Rattle.std.proofs.lemmas.Bool.{and_parts, false≢true}
use Rattle.query.specs.declared.node.Node.{Node}
use Rattle.query.specs.Tree.{Query, records, alike}
use Rattle.query.specs.Stands.{blank, query_in}
use Rattle.grammar.specs.Machine.{State}
use Rattle.parser.specs.declared.fault.ReadFault.{ReadFault}
use Rattle.parser.specs.Parsing.{parsed}
use Rattle.text.specs.declared.fault.BindFault.{BindFault}
use Rattle.text.specs.Binding.{bound, unknown}
use Rattle.text.specs.Promise.{StandsFor, Accepted}
use Rattle.text.specs.Reading.{padded}
use Rattle.text.specs.Written.{ReadsBack}
use Rattle.text.proofs.Promised.{RightFor, found_right}

abbrev is_none : Option BindFault → Bool
is_none None = true
is_none (Some f) = false

-- a sheet that has just room
abbrev sheet : List Node
sheet = replicate 64 blank

-- the records of a text that was read are those of a query that it stands for
read_query : (text : List ℕ) (S : State) → parsed text ≡ Ok S → (q : Query) × StandsFor q text × (S.out ≡ records q)
read_query text S e =
    let m : Accepted text (length S.out) sheet (padded S.out 64) = subst (RightFor text sheet) e (found_right text sheet) in
    (m.query, m.stands, sym (take_at S.out _ (length S.out) refl) ∙ ap (take (length S.out)) m.holds ∙ take_at (records m.query) _ (length S.out) (sym m.counts))

module _ (names : List (List ℕ)) (q : Query) (text : List ℕ) where
  -- whether what was read, bound by the names, is equal to q
  abbrev pub bound_alike : Result State ReadFault → Bool
  bound_alike (Ok S) = is_none (unknown names text S.out) && alike (query_in (map (bound names text) S.out)) q
  bound_alike (Err f) = false

  -- whether the text, read and bound by the names, gives a query equal to q
  abbrev pub gives : Bool
  gives = bound_alike (parsed text)

  none_is : (o : Option BindFault) → is_none o ≡ true → o ≡ None
  none_is None e = refl
  none_is (Some f) e = absurd (false≢true e)

  -- and then it does
  pub gives_back : gives ≡ true → ReadsBack names q text
  gives_back e = go (parsed text) refl e
    where
      go : (r : Result State ReadFault) → parsed text ≡ r → bound_alike r ≡ true → ReadsBack names q text
      go (Ok S) p e =
          let a = and_parts (is_none (unknown names text S.out)) _ e in
          let r = read_query text S p in
          record {
            read = r.0;
            stands = r.1;
            known = ap (unknown names text) (sym r.2) ∙ none_is _ a.0;
            same = ap (λ xs. alike (query_in (map (bound names text) xs)) q) (sym r.2) ∙ a.1;
          }
      go (Err f) p e = absurd (false≢true e)
