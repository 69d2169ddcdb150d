-- The parentheses that are open while a query is written, and its text record by record.
use Rattle.std.proofs.Common.{◌≡◌, ℕ, zero, suc, ◌+◌, ◌*◌, ◌<◌, ◌≤◌, Bool, true, false, cond, ◌&&◌, List, [], ◌∷◌, ◌++◌, length, get_or, drop, Some, slice_get, sym, refl, ap, ◌∙◌, append_assoc, append-nil, arith}
use Rattle.std.proofs.lemmas.Option.{none-some}
use Rattle.std.proofs.lemmas.List.{drop_more, length-append}
use Rattle.std.proofs.lemmas.Bool.{and_parts}
use Rattle.query.specs.declared.node.Kind.{Kind}
use Rattle.query.specs.declared.node.Node.{Node}
use Rattle.query.specs.declared.node.Role.{Role}
use Rattle.query.specs.declared.node.Role.TheVariants.{Shape}
use Rattle.query.specs.declared.node.Stage.{Stage}
use Rattle.query.specs.Rules.{allows, parts_right, part_role, number_right, record_right, keeps, keeps_each, well}
use Rattle.query.specs.Stands.{is_query, query_in}
use Rattle.query.proofs.Standing.{is_query_sound}
use Rattle.query.specs.Tree.{Query, node, Queries, none, more, count, records, records_each}
use Rattle.alphabet.specs.Every.{every}
use Rattle.alphabet.specs.Names.{may_name}
use Rattle.grammar.specs.Names.{operator_word}
use Rattle.grammar.specs.Spelling.{is_symbol, takes_number}
use Rattle.grammar.proofs.Forward.{symbol_none, some_same}
use Rattle.writer.specs.declared.Pen.{Pen}
use Rattle.writer.specs.Writing.{numeral, head_text, record_text, text_of, parts_text}
use Rattle.writer.specs.Laying.{open_now, Puts, gap, begun, shut_text, shut_stack, pushed, one_text, open_after, laid}
use Rattle.writer.proofs.Putting.{wrote_then, wrote_as, wrote_nothing, word_short, numeral_short, name_short}

-- bytes behind bytes
pub puts_then : {p q r : Pen} {l m bs cs : List ℕ} → Puts p q l bs → Puts q r m cs → p.at + length bs + length cs ≤ length p.out.now → Puts p r m (bs ++ cs)
puts_then a b h = record { same = b.same ∙ a.same; stack = b.stack; wrote = wrote_then a.wrote b.wrote h; size = b.size ∙ a.size }

pub puts_as : {p q : Pen} {l m bs cs : List ℕ} → l ≡ m → bs ≡ cs → Puts p q l bs → Puts p q m cs
puts_as e f a = record { same = a.same; stack = a.stack ∙ e; wrote = wrote_as f a.wrote; size = a.size }

pub puts_nothing : (p : Pen) → Puts p p (open_now p) []
puts_nothing p = record { same = refl; stack = refl; wrote = wrote_nothing p.out.now p.at; size = refl }

pub gap_short : (o : List ℕ) → length (gap o) ≤ 1
gap_short [] = omega arith
gap_short (m ∷ ms) = omega arith

head_short : (k : Kind) (n : ℕ) → length (head_text k n) ≤ 16
head_short k n = go (takes_number k)
  where
    go : (t : Bool) → length (40 ∷ (operator_word k ++ cond t (32 ∷ numeral n) [])) ≤ 16
    go true = let a = length-append (operator_word k) (32 ∷ numeral n) in let b = word_short k in let c = numeral_short n in omega arith
    go false = let a = length-append (operator_word k) [] in let b = word_short k in omega arith

-- what stands for a record is short
pub record_short : (names : List (List ℕ)) (k : Kind) (n : ℕ) → every may_name names ≡ true → length (record_text names k n) ≤ 16
record_short names k n e = go (is_symbol k)
  where
    go : (t : Bool) → length (cond t (get_or names n []) (head_text k n)) ≤ 16
    go true = name_short names n e
    go false = head_short k n

-- how far the closing has come
pub record Shutting (first now' : Pen) : Type 0 where
  pub bytes : List ℕ
  pub texts : bytes ++ shut_text (open_now now') ≡ shut_text (open_now first)
  pub stacks : shut_stack (open_now now') ≡ shut_stack (open_now first)
  pub puts : Puts first now' (open_now now') bytes
  pub sums : length bytes + length (open_now now') ≡ length (open_now first)

shuts_here : (ms : List ℕ) → slice_get ms 0 ≡ Some 0 → ms ≡ 0 ∷ drop 1 ms
shuts_here [] e = absurd (none-some 0 e)
shuts_here (m ∷ ms) e = ap (λ n. n ∷ ms) (some_same m 0 e)

-- one parenthesis more
pub shutting_more : {first p q : Pen} → Shutting first p → slice_get (open_now p) 0 ≡ Some 0 → Puts p q (open_now q) (41 ∷ []) → open_now q ≡ drop 1 (open_now p) →
    first.at + length (open_now first) ≤ length first.out.now → Shutting first q
shutting_more {first} {p} {q} h e a behind room =
    let here : open_now p ≡ 0 ∷ open_now q = shuts_here (open_now p) e ∙ ap (λ ms. 0 ∷ ms) (sym behind) in
    let n = ap length here in
    let s = h.sums in
    let l = length-append h.bytes (41 ∷ []) in
    record {
      bytes = h.bytes ++ 41 ∷ [];
      texts = append_assoc h.bytes (41 ∷ []) (shut_text (open_now q)) ∙ ap (λ ms. h.bytes ++ shut_text ms) (sym here) ∙ h.texts;
      stacks = ap shut_stack (sym here) ∙ h.stacks;
      puts = puts_then h.puts a (omega arith);
      sums = omega arith;
    }

shut_stays : (ms : List ℕ) → (slice_get ms 0 ≡ Some 0 → ⊥) → ([] ≡ shut_text ms) × (ms ≡ shut_stack ms)
shut_stays [] n = (refl, refl)
shut_stays (zero ∷ ms) n = absurd (n refl)
shut_stays (suc m ∷ ms) n = (refl, refl)

pub shutting_all : {first p : Pen} → Shutting first p → (slice_get (open_now p) 0 ≡ Some 0 → ⊥) → Puts first p (shut_stack (open_now first)) (shut_text (open_now first))
shutting_all {first} {p} h n =
    let stays = shut_stays (open_now p) n in
    puts_as (stays.1 ∙ h.stacks) (sym (append-nil h.bytes) ∙ ap (λ ys. h.bytes ++ ys) stays.0 ∙ h.texts) h.puts

pub begun_long : (ms : List ℕ) → length (begun ms) ≡ length ms
begun_long [] = refl
begun_long (m ∷ ms) = refl

pub pushed_short : (x : Node) (ms : List ℕ) → length (pushed x ms) ≤ length ms + 1
pushed_short x ms = go (is_symbol x.kind)
  where
    go : (t : Bool) → length (cond t ms (x.parts ∷ ms)) ≤ length ms + 1
    go true = omega arith
    go false = omega arith

-- each parenthesis that closes is open no longer
pub shut_sum : (ms : List ℕ) → length (shut_text ms) + length (shut_stack ms) ≡ length ms
shut_sum [] = refl
shut_sum (zero ∷ ms) = let h = shut_sum ms in omega arith
shut_sum (suc m ∷ ms) = omega arith

-- one record, in four steps
pub one_record : {p q r s t : Pen} (names : List (List ℕ)) (x : Node) → Puts p q (begun (open_now p)) (gap (open_now p)) → Puts q r (open_now q) (record_text names x.kind x.number) →
    Puts r s (pushed x (open_now r)) [] → Puts s t (shut_stack (open_now s)) (shut_text (open_now s)) → every may_name names ≡ true → p.at + length (open_now p) + 18 ≤ length p.out.now →
    Puts p t (open_after x (open_now p)) (one_text names x (open_now p))
one_record {p} {q} {r} {s} {t} names x a b c d e room =
    let ms = open_now p in
    let stack : open_now s ≡ pushed x (begun ms) = c.stack ∙ ap (pushed x) (b.stack ∙ a.stack) in
    let shut = puts_as (ap shut_stack stack) (ap shut_text stack) d in
    let g = gap_short ms in
    let n = record_short names x.kind x.number e in
    let l = shut_sum (pushed x (begun ms)) in
    let m = pushed_short x (begun ms) in
    let o = begun_long ms in
    let u = length-append (record_text names x.kind x.number) (shut_text (pushed x (begun ms))) in
    let v₁ = a.wrote.ends in
    let v₂ = b.wrote.ends in
    let v₃ = c.wrote.ends in
    let z₁ = a.size in
    let z₂ = b.size in
    puts_then a (puts_then b (puts_then c shut (omega arith)) (omega arith)) (omega arith)

-- how far the writing of records has come
pub record Laying (names : List (List ℕ)) (xs : List Node) (first : Pen) (i : ℕ) (now' : Pen) : Type 0 where
  pub bytes : List ℕ
  pub texts : bytes ++ laid names (open_now now') (drop i xs) ≡ laid names [] xs
  pub puts : Puts first now' (open_now now') bytes
  pub small : now'.at + length (open_now now') ≤ 18 * i
  pub few : length (open_now now') ≤ i

-- one record more
pub laying_more : {names : List (List ℕ)} {xs : List Node} {first p q : Pen} {i : ℕ} (d : Node) → Laying names xs first i p → Puts p q (open_after (get_or xs i d) (open_now p)) (one_text names (get_or xs i d) (open_now p)) →
    i < length xs → i < 64 → every may_name names ≡ true → first.at ≡ 0 → 4096 ≤ length first.out.now → Laying names xs first (i + 1) q
laying_more {names} {xs} {first} {p} {q} {i} d h a in_range lt e start room =
    let x = get_or xs i d in
    let ms = open_now p in
    let rt = record_text names x.kind x.number in
    let st = shut_text (pushed x (begun ms)) in
    let rest = laid names (open_after x ms) (drop (i + 1) xs) in
    let g = gap_short ms in
    let n = record_short names x.kind x.number e in
    let l = shut_sum (pushed x (begun ms)) in
    let m = pushed_short x (begun ms) in
    let o = begun_long ms in
    let u₁ = length-append (gap ms) (rt ++ st) in
    let u₂ = length-append rt st in
    let v₁ = h.puts.wrote.ends in
    let v₂ = a.wrote.ends in
    let k = ap length a.stack in
    let s = h.small in
    let f = h.few in
    record {
      bytes = h.bytes ++ one_text names x ms;
      texts =
          ap (λ ys. (h.bytes ++ one_text names x ms) ++ laid names ys (drop (i + 1) xs)) a.stack
          ∙ append_assoc h.bytes (gap ms ++ (rt ++ st)) rest
          ∙ ap (λ ys. h.bytes ++ ys) (append_assoc (gap ms) (rt ++ st) rest ∙ ap (λ ys. gap ms ++ ys) (append_assoc rt st rest))
          ∙ ap (λ ys. h.bytes ++ laid names ms ys) (sym (drop_more xs i d in_range))
          ∙ h.texts;
      puts = puts_as (sym a.stack) refl (puts_then h.puts a (omega arith));
      small = omega arith;
      few = omega arith;
    }

module _ (names : List (List ℕ)) where
  -- what comes behind a part
  abbrev after : List ℕ → List Node → List ℕ
  after ms xs = shut_text ms ++ laid names (shut_stack ms) xs

  mutual
    unfolding text_of records keeps

    -- the records of a query are written as its text
    laid_text : (q : Query) (s : Stage) (r : Role) (ms : List ℕ) (rest : List Node) → keeps s r q ≡ true → laid names ms (records q ++ rest) ≡ gap ms ++ (text_of names q ++ after (begun ms) rest)
    laid_text (node k n p l qs) s r ms rest e =
        let a = and_parts (record_right s r (record { kind = k; number = n; parts = count qs; place = p; length = l })) (keeps_each s (part_role k) qs) e in
        let b = and_parts (allows r k) (parts_right k (count qs) && number_right s k n p l) a.0 in
        let c = and_parts (parts_right k (count qs)) (number_right s k n p l) b.1 in
        ap (λ t. gap ms ++ t) (go (is_symbol k) refl c.0 (laid_parts qs s (part_role k) (begun ms) rest a.1))
      where
        go : (t : Bool) → is_symbol k ≡ t → parts_right k (count qs) ≡ true → after (count qs ∷ begun ms) (records_each qs ++ rest) ≡ parts_text names qs ++ after (begun ms) rest →
            record_text names k n ++ after (cond t (begun ms) (count qs ∷ begun ms)) (records_each qs ++ rest) ≡ (record_text names k n ++ cond t [] (parts_text names qs)) ++ after (begun ms) rest
        go true z pr each =
            ap (λ x. record_text names k n ++ after (begun ms) (records_each x ++ rest)) (symbol_none k qs z pr)
            ∙ ap (λ x. x ++ after (begun ms) rest) (sym (append-nil (record_text names k n)))
        go false z pr each = ap (λ x. record_text names k n ++ x) each ∙ sym (append_assoc (record_text names k n) (parts_text names qs) (after (begun ms) rest))

    laid_parts : (qs : Queries) (s : Stage) (r : Role) (ms : List ℕ) (rest : List Node) → keeps_each s r qs ≡ true → after (count qs ∷ ms) (records_each qs ++ rest) ≡ parts_text names qs ++ after ms rest
    laid_parts none s r ms rest e = refl
    laid_parts (more q qs) s r ms rest e =
        let a = and_parts (keeps s r q) (keeps_each s r qs) e in
        ap (laid names (suc (count qs) ∷ ms)) (append_assoc (records q) (records_each qs) rest)
        ∙ laid_text q s r (suc (count qs) ∷ ms) (records_each qs ++ rest) a.0
        ∙ ap (λ x. 32 ∷ (text_of names q ++ x)) (laid_parts qs s r ms rest a.1)
        ∙ ap (λ x. 32 ∷ x) (sym (append_assoc (text_of names q) (parts_text names qs) (after ms rest)))

  pub laid_query : (s : Stage) (xs : List Node) → is_query s xs ≡ true → laid names [] xs ≡ text_of names (query_in xs)
  unfolding well
  laid_query s xs e =
      let h = is_query_sound s xs e in
      let k = and_parts (keeps s Shape (query_in xs)) _ h.1 in
      ap (laid names []) (sym h.0 ∙ sym (append-nil (records (query_in xs))))
      ∙ laid_text (query_in xs) s Shape [] [] k.0
      ∙ append-nil (text_of names (query_in xs))
