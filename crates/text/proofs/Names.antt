-- The words of a query that was read lie in its text.
use Rattle.std.proofs.Common.{◌≡◌, ℕ, ◌+◌, ◌≤◌, true, ◌&&◌, eqb, leb, List, subst}
use Rattle.std.specs.List.{AllByRecursion}
use Rattle.std.proofs.ByRecursion.{All-append}
use Rattle.std.proofs.lemmas.Bool.{and_parts, leb-true, false≢true}
use Rattle.query.specs.declared.node.Kind.{Kind}
use Rattle.query.specs.declared.node.Kind.TheVariants.{Symbol, Any, Concat, Exact, Atleast, Atmost, In, Precisely, Noless, Nomore, And, Or, Inorder}
use Rattle.query.specs.declared.node.Node.{Node}
use Rattle.query.specs.declared.node.Role.{Role}
use Rattle.query.specs.declared.node.Role.TheVariants.{Shape}
use Rattle.query.specs.declared.node.Stage.TheVariants.{Read}
use Rattle.query.specs.Tree.{Query, node, Queries, none, more, count, records, records_each}
use Rattle.query.specs.Rules.{allows, parts_right, part_role, number_right, record_right, keeps, keeps_each, well}
use Rattle.query.specs.Stands.{is_query, query_in}
use Rattle.query.proofs.Standing.{is_query_sound}
use Rattle.grammar.specs.Spelling.{is_symbol}
use Rattle.text.specs.Binding.{Lies}

symbol_lies : (k : Kind) (t n p l : ℕ) → number_right (Read t) k n p l ≡ true → is_symbol k ≡ true → p + l ≤ t
symbol_lies Symbol t n p l e s = leb-true (p + l) t (and_parts (eqb n 255) (leb (p + l) t) e).1
symbol_lies Any t n p l e s = absurd (false≢true s)
symbol_lies Concat t n p l e s = absurd (false≢true s)
symbol_lies Exact t n p l e s = absurd (false≢true s)
symbol_lies Atleast t n p l e s = absurd (false≢true s)
symbol_lies Atmost t n p l e s = absurd (false≢true s)
symbol_lies In t n p l e s = absurd (false≢true s)
symbol_lies Precisely t n p l e s = absurd (false≢true s)
symbol_lies Noless t n p l e s = absurd (false≢true s)
symbol_lies Nomore t n p l e s = absurd (false≢true s)
symbol_lies And t n p l e s = absurd (false≢true s)
symbol_lies Or t n p l e s = absurd (false≢true s)
symbol_lies Inorder t n p l e s = absurd (false≢true s)

mutual
  unfolding keeps records

  -- the words of a query that was read lie in its text
  keeps_lies : (q : Query) (r : Role) (t : ℕ) → keeps (Read t) r q ≡ true → AllByRecursion (Lies t) (records q)
  keeps_lies (node k n p l qs) r t e =
      let a = and_parts (record_right (Read t) r (record { kind = k; number = n; parts = count qs; place = p; length = l })) (keeps_each (Read t) (part_role k) qs) e in
      let b = and_parts (allows r k) (parts_right k (count qs) && number_right (Read t) k n p l) a.0 in
      let c = and_parts (parts_right k (count qs)) (number_right (Read t) k n p l) b.1 in
      (symbol_lies k t n p l c.1, each_lies qs (part_role k) t a.1)

  each_lies : (qs : Queries) (r : Role) (t : ℕ) → keeps_each (Read t) r qs ≡ true → AllByRecursion (Lies t) (records_each qs)
  each_lies none r t e = tt
  each_lies (more q qs) r t e =
      let a = and_parts (keeps (Read t) r q) (keeps_each (Read t) r qs) e in
      All-append (Lies t) (records q) (records_each qs) (keeps_lies q r t a.0) (each_lies qs r t a.1)

pub query_lies : (t : ℕ) (xs : List Node) → is_query (Read t) xs ≡ true → AllByRecursion (Lies t) xs
unfolding well
query_lies t xs e =
    let h = is_query_sound (Read t) xs e in
    let k = and_parts (keeps (Read t) Shape (query_in xs)) _ h.1 in
    subst (AllByRecursion (Lies t)) h.0 (keeps_lies (query_in xs) Shape t k.0)
