-- The tables of a parsed document have their keys in order.
use Rattle.std.proofs.Common.{◌≡◌, ℕ, zero, suc, Bool, true, false, cond, List, [], ◌∷◌, ◌++◌, length, drop, Option, Some, None, Ordering, Less, Equal, Greater, nat_cmp, is_lt, option_map, option_and_then, refl, ap, subst}
use Rattle.std.specs.Prelude.{◌&&◌, ◌==◌, slice_index}
use Rattle.std.specs.Str.{is_utf8}
use Rattle.std.specs.Cmp.Lexicographic.{slice_cmp}
use Rattle.std.specs.Ordering.{match_ordering}
use Rattle.std.proofs.lemmas.Bool.{and_parts}
use Rattle.std.proofs.lemmas.Cmp.{nat_list_cmp_total}
use Rattle.toml_parser.specs.Lexical.{Read, first, skip_ws, skip_blank, left_bracket, left_brace, right_bracket, right_brace}
use Rattle.toml_parser.specs.Strings.{Key, quoted, starts_string, recursion_limit}
use Rattle.toml_parser.specs.Numbers.{unquoted}
use Rattle.toml_parser.specs.declared.scalar.Scalar.{Scalar}
use Rattle.toml_parser.specs.declared.scalar.Scalar.TheVariants.{Boolean, Integer, Float, Datetime}
use Rattle.toml.specs.Data.{Data, string, array, table, Items, no_items, item, Members, no_members, push_item, same_key, is_before, is_sorted, items_are_sorted, members_are_sorted}
use Rattle.toml.specs.Tables.{implicit, dotted, header, Node, Nodes, no_nodes, node, value, open_table, open_array, get_node, insert, replace, close, close_node, Edit, header_node, dot_node, by_header, by_dot, along_header, along_dots, Definition, key_value, std_table, array_table, Expression, new_node, redefine, at_found, at_key, put, Document, define}
use Rattle.toml.specs.Parse.{read_map, after_byte, after_element, key_equals, keyval, items, members, scalar_data, atom, val, header_key, expression, ends_line, line, lines, skip_bom, parse_document}
use Rattle.dds_fields.specs.Document.{document}

bind_some : {A B : Type 0} (o : Option A) (f : A → Option B) (y : B) → option_and_then f o ≡ Some y → (x : A) × (o ≡ Some x) × (f x ≡ Some y)
bind_some None f y e = absurd cc
bind_some (Some x) f y e = (x, refl, e)

map_some : {A B : Type 0} (o : Option A) (f : A → B) (y : B) → option_map f o ≡ Some y → (x : A) × (o ≡ Some x) × (f x ≡ y)
map_some None f y e = absurd cc
map_some (Some x) f y e = (x, refl, cc)

if_some : {A : Type 0} (b : Bool) (x y : A) → cond b (Some x) None ≡ Some y → x ≡ y
if_some true x y e = cc
if_some false x y e = absurd cc

-- the keys of the nodes are in order, and so are those of each table inside
record InOrder (ns : Nodes) : Type 0 where
  pub holds : members_are_sorted (close ns) ≡ true

-- the keys of what the node holds are in order
abbrev NodeInOrder : Node → Type 0
NodeInOrder x = is_sorted (close_node x) ≡ true

-- a first node and the nodes after it, in order
record FirstInOrder (k : List ℕ) (x : Node) (ns : Nodes) : Type 0 where
  pub before : is_before k (close ns) ≡ true
  pub here : NodeInOrder x
  pub more : InOrder ns

first_in_order : (k : List ℕ) (x : Node) (ns : Nodes) → InOrder (node k x ns) → FirstInOrder k x ns
first_in_order k x ns h =
    let (front, more) = and_parts (is_before k (close ns) && is_sorted (close_node x)) (members_are_sorted (close ns)) h.holds in
    let (before, here) = and_parts (is_before k (close ns)) (is_sorted (close_node x)) front in
    record { before = before; here = here; more = record { holds = more } }

from_first : (k : List ℕ) (x : Node) (ns : Nodes) → is_before k (close ns) ≡ true → NodeInOrder x → InOrder ns → InOrder (node k x ns)
from_first k x ns before here more = record { holds = rw (before, here, more.holds) refl }

-- the other way round
less_from_greater : (k l : List ℕ) → slice_cmp nat_cmp k l ≡ Greater → is_lt (slice_cmp nat_cmp l k) ≡ true
less_from_greater k l e = rw (nat_list_cmp_total.antisymm l k, e) refl

-- a key before all others stays so where a greater one is inserted
before_insert : (l k : List ℕ) (x : Node) (ns : Nodes) → is_lt (slice_cmp nat_cmp l k) ≡ true → is_before l (close ns) ≡ true → is_before l (close (insert k x ns)) ≡ true
before_insert l k x no_nodes h b = h
before_insert l k x (node j y ns) h b = by (slice_cmp nat_cmp k j)
  where
    by : (o : Ordering) → is_before l (close (match_ordering o (node k x (node j y ns)) (node j x ns) (node j y (insert k x ns)))) ≡ true
    by Less = h
    by Equal = b
    by Greater = b

-- a new key goes to its place in the order
order_insert : (k : List ℕ) (x : Node) (ns : Nodes) → NodeInOrder x → InOrder ns → InOrder (insert k x ns)
order_insert k x no_nodes h s = record { holds = rw h refl }
order_insert k x (node j y ns) h s = by (order_insert k x ns h) (slice_cmp nat_cmp k j) refl
  where
    by : (InOrder ns → InOrder (insert k x ns)) → (o : Ordering) → slice_cmp nat_cmp k j ≡ o → InOrder (match_ordering o (node k x (node j y ns)) (node j x ns) (node j y (insert k x ns)))
    by more Less e = from_first k x (node j y ns) (ap is_lt e) h s
    by more Equal e = let f = first_in_order j y ns s in from_first j x ns f.before h f.more
    by more Greater e =
        let f = first_in_order j y ns s in
        from_first j y (insert k x ns) (before_insert j k x ns (less_from_greater k j e) f.before) f.here (more f.more)

-- a key before all others stays so where a value is replaced
before_replace : (l k : List ℕ) (x : Node) (ns : Nodes) → is_before l (close ns) ≡ true → is_before l (close (replace k x ns)) ≡ true
before_replace l k x no_nodes b = b
before_replace l k x (node j y ns) b = by (same_key k j)
  where
    by : (c : Bool) → is_before l (close (cond c (node j x ns) (node j y (replace k x ns)))) ≡ true
    by true = b
    by false = b

-- a value that is replaced leaves the keys in order
order_replace : (k : List ℕ) (x : Node) (ns : Nodes) → NodeInOrder x → InOrder ns → InOrder (replace k x ns)
order_replace k x no_nodes h s = s
order_replace k x (node j y ns) h s = by (order_replace k x ns h) (same_key k j) (first_in_order j y ns s)
  where
    by : (InOrder ns → InOrder (replace k x ns)) → (c : Bool) → FirstInOrder j y ns → InOrder (cond c (node j x ns) (node j y (replace k x ns)))
    by more true f = from_first j x ns f.before h f.more
    by more false f = from_first j y (replace k x ns) (before_replace j k x ns f.before) f.here (more f.more)

-- what is found among nodes in order is in order
order_found : (k : List ℕ) (ns : Nodes) (x : Node) → InOrder ns → get_node k ns ≡ Some x → NodeInOrder x
order_found k no_nodes x s e = absurd cc
order_found k (node j y ns) x s e = by (order_found k ns x) (same_key k j) (first_in_order j y ns s) e
  where
    by : (InOrder ns → get_node k ns ≡ Some x → NodeInOrder x) → (c : Bool) → FirstInOrder j y ns → cond c (Some y) (get_node k ns) ≡ Some x → NodeInOrder x
    by more true f g = let same : y ≡ x = cc in subst (λ z. NodeInOrder z) same f.here
    by more false f g = more f.more g

-- one more item at the end
items_push : (ds : Items) (d : Data) → items_are_sorted ds ≡ true → is_sorted d ≡ true → items_are_sorted (push_item ds d) ≡ true
items_push no_items d a b = rw b refl
items_push (item e ds) d a b =
    let (here, more) = and_parts (is_sorted e) (items_are_sorted ds) a in
    rw (here, items_push ds d more b) refl

-- the items before the last one, and the last
items_pushed : (ds : Items) (d : Data) → items_are_sorted (push_item ds d) ≡ true → (items_are_sorted ds ≡ true) × (is_sorted d ≡ true)
items_pushed no_items d h = let (here, more) = and_parts (is_sorted d) true h in (refl, here)
items_pushed (item e ds) d h =
    let (here, more) = and_parts (is_sorted e) (items_are_sorted (push_item ds d)) h in
    let (before, last) = items_pushed ds d more in
    (rw (here, before) refl, last)

-- the edit leaves nodes in order
record Keeps (e : Edit) : Type 0 where
  pub keeps : (ns new : Nodes) → InOrder ns → e ns ≡ Some new → InOrder new

-- the keys of what is defined are in order
abbrev DefinesInOrder : Definition → Type 0
DefinesInOrder what = NodeInOrder (new_node what)

-- a header that names a table again leaves it in order
order_redefine : (what : Definition) (x y : Node) → NodeInOrder x → redefine what x ≡ Some y → NodeInOrder y
order_redefine std_table (open_table implicit inner) y h e = let same : open_table header inner ≡ y = cc in subst (λ z. NodeInOrder z) same h
order_redefine array_table (open_array done last) y h e =
    let same : open_array (push_item done (table (close last))) no_nodes ≡ y = cc in
    subst (λ z. NodeInOrder z) same (items_push (push_item done (table (close last))) (table no_members) h refl)
order_redefine _ _ y h e = absurd cc

-- the edits by which a document is built

keeps_at_key : (k : List ℕ) (what : Definition) → DefinesInOrder what → Keeps (at_key k what)
unfolding at_key
keeps_at_key k what d = record { keeps = λ ns new s e. by ns new s (get_node k ns) refl e }
  where
    by : (ns new : Nodes) → InOrder ns → (o : Option Node) → get_node k ns ≡ o → at_found k what ns o ≡ Some new → InOrder new
    by ns new s None g e = let same : insert k (new_node what) ns ≡ new = cc in subst InOrder same (order_insert k (new_node what) ns d s)
    by ns new s (Some x) g e =
        let m = map_some (redefine what x) (λ y. replace k y ns) new e in
        subst InOrder m.2 (order_replace k m.0 ns (order_redefine what x m.0 (order_found k ns x s g) m.1) s)

nothing_in_order : InOrder no_nodes
nothing_in_order = record { holds = refl }

order_header : (edit : Edit) (x y : Node) → Keeps edit → NodeInOrder x → header_node edit x ≡ Some y → NodeInOrder y
order_header edit (value d) y h s e = absurd cc
order_header edit (open_table origin inner) y h s e =
    let m = map_some (edit inner) (open_table origin) y e in
    subst (λ z. NodeInOrder z) m.2 (h.keeps inner m.0 (record { holds = s }) m.1).holds
order_header edit (open_array done last) y h s e =
    let m = map_some (edit last) (open_array done) y e in
    let (before, here) = items_pushed done (table (close last)) s in
    subst (λ z. NodeInOrder z) m.2 (items_push done (table (close m.0)) before (h.keeps last m.0 (record { holds = here }) m.1).holds)

order_dotted : (edit : Edit) (inner : Nodes) (y : Node) → Keeps edit → members_are_sorted (close inner) ≡ true → option_map (open_table dotted) (edit inner) ≡ Some y → NodeInOrder y
order_dotted edit inner y h s e =
    let m = map_some (edit inner) (open_table dotted) y e in
    subst (λ z. NodeInOrder z) m.2 (h.keeps inner m.0 (record { holds = s }) m.1).holds

order_dot : (edit : Edit) (x y : Node) → Keeps edit → NodeInOrder x → dot_node edit x ≡ Some y → NodeInOrder y
order_dot edit (value d) y h s e = absurd cc
order_dot edit (open_table header inner) y h s e = absurd cc
order_dot edit (open_table implicit inner) y h s e = order_dotted edit inner y h s e
order_dot edit (open_table dotted inner) y h s e = order_dotted edit inner y h s e
order_dot edit (open_array done last) y h s e = absurd cc

keeps_by_header : (k : List ℕ) (edit : Edit) (ns new : Nodes) (o : Option Node) → Keeps edit → InOrder ns → get_node k ns ≡ o → by_header k edit ns o ≡ Some new → InOrder new
keeps_by_header k edit ns new None h s g e =
    let m = map_some (edit no_nodes) (λ n. insert k (open_table implicit n) ns) new e in
    subst InOrder m.2 (order_insert k (open_table implicit m.0) ns (h.keeps no_nodes m.0 nothing_in_order m.1).holds s)
keeps_by_header k edit ns new (Some x) h s g e =
    let m = map_some (header_node edit x) (λ n. replace k n ns) new e in
    subst InOrder m.2 (order_replace k m.0 ns (order_header edit x m.0 h (order_found k ns x s g) m.1) s)

keeps_by_dot : (k : List ℕ) (edit : Edit) (ns new : Nodes) (o : Option Node) → Keeps edit → InOrder ns → get_node k ns ≡ o → by_dot k edit ns o ≡ Some new → InOrder new
keeps_by_dot k edit ns new None h s g e =
    let m = map_some (edit no_nodes) (λ n. insert k (open_table dotted n) ns) new e in
    subst InOrder m.2 (order_insert k (open_table dotted m.0) ns (h.keeps no_nodes m.0 nothing_in_order m.1).holds s)
keeps_by_dot k edit ns new (Some x) h s g e =
    let m = map_some (dot_node edit x) (λ n. replace k n ns) new e in
    subst InOrder m.2 (order_replace k m.0 ns (order_dot edit x m.0 h (order_found k ns x s g) m.1) s)

keeps_along_header : (p : List (List ℕ)) (edit : Edit) → Keeps edit → Keeps (along_header p edit)
unfolding along_header
keeps_along_header [] edit h = h
keeps_along_header (k ∷ p) edit h = record { keeps = λ ns new s e. keeps_by_header k (along_header p edit) ns new (get_node k ns) (keeps_along_header p edit h) s refl e }

keeps_along_dots : (p : List (List ℕ)) (edit : Edit) → Keeps edit → Keeps (along_dots p edit)
unfolding along_dots
keeps_along_dots [] edit h = h
keeps_along_dots (k ∷ p) edit h = record { keeps = λ ns new s e. keeps_by_dot k (along_dots p edit) ns new (get_node k ns) (keeps_along_dots p edit h) s refl e }

keeps_put : (k : Key) (d : Data) → is_sorted d ≡ true → Keeps (put k d)
keeps_put k d h = keeps_along_dots k.0 (at_key k.1 (key_value d)) (keeps_at_key k.1 (key_value d) h)

-- one more line of a document
order_define : (doc next : Document) (e : Expression) → InOrder doc.0 → DefinesInOrder e.1 → define doc e ≡ Some next → InOrder next.0
unfolding define
order_define doc next (k, key_value d) s h e =
    let m = map_some (along_header doc.1 (put k d) doc.0) (λ root. (root, doc.1)) next e in
    subst (λ (n : Document). InOrder n.0) m.2 ((keeps_along_header doc.1 (put k d) (keeps_put k d h)).keeps doc.0 m.0 s m.1)
order_define doc next (k, std_table) s h e =
    let m = map_some (along_header k.0 (at_key k.1 std_table) doc.0) (λ root. (root, k.0 ++ k.1 ∷ [])) next e in
    subst (λ (n : Document). InOrder n.0) m.2 ((keeps_along_header k.0 (at_key k.1 std_table) (keeps_at_key k.1 std_table h)).keeps doc.0 m.0 s m.1)
order_define doc next (k, array_table) s h e =
    let m = map_some (along_header k.0 (at_key k.1 array_table) doc.0) (λ root. (root, k.0 ++ k.1 ∷ [])) next e in
    subst (λ (n : Document). InOrder n.0) m.2 ((keeps_along_header k.0 (at_key k.1 array_table) (keeps_at_key k.1 array_table h)).keeps doc.0 m.0 s m.1)

-- the keys of what is read are in order
record ReadsInOrder (read : List ℕ → Read Data) : Type 0 where
  pub sorted : (text : List ℕ) (v : Data × List ℕ) → read text ≡ Some v → is_sorted v.0 ≡ true

-- values

scalar_in_order : (s : Scalar) → is_sorted (scalar_data s) ≡ true
scalar_in_order (Boolean b) = refl
scalar_in_order (Integer z) = refl
scalar_in_order (Float x) = refl
scalar_in_order (Datetime dt) = refl

atom_in_order : (text : List ℕ) (v : Data × List ℕ) → atom text ≡ Some v → is_sorted v.0 ≡ true
unfolding atom
atom_in_order text v e = by (starts_string text) e
  where
    by : (b : Bool) → cond b (read_map string (quoted text)) (read_map scalar_data (unquoted text)) ≡ Some v → is_sorted v.0 ≡ true
    by true g = let m = map_some (quoted text) (λ p. (string p.0, p.1)) v g in subst (λ (w : Data × List ℕ). is_sorted w.0 ≡ true) m.2 refl
    by false g = let m = map_some (unquoted text) (λ p. (scalar_data p.0, p.1)) v g in subst (λ (w : Data × List ℕ). is_sorted w.0 ≡ true) m.2 (scalar_in_order m.0.0)

module _ (read : List ℕ → Read Data) (reads : ReadsInOrder read) where
  items_in_order : (n : ℕ) (found : Items) (text : List ℕ) (v : Items × List ℕ) → items_are_sorted found ≡ true → items read n found text ≡ Some v → items_are_sorted v.0 ≡ true
  unfolding items
  items_in_order zero found text v s e = absurd cc
  items_in_order (suc n) found text v s e = by (items_in_order n) (first (skip_blank text) == right_bracket) e
    where
      by : ((ds : Items) (rest : List ℕ) (w : Items × List ℕ) → items_are_sorted ds ≡ true → items read n ds rest ≡ Some w → items_are_sorted w.0 ≡ true)
          → (b : Bool) → cond b (Some (found, drop 1 (skip_blank text)))
          (option_and_then (λ (w : Data × List ℕ). option_and_then (items read n (push_item found w.0)) (after_element right_bracket w.1)) (read (skip_blank text))) ≡ Some v → items_are_sorted v.0 ≡ true
      by more true g = let same : (found, drop 1 (skip_blank text)) ≡ v = cc in subst (λ (w : Items × List ℕ). items_are_sorted w.0 ≡ true) same s
      by more false g =
          let a = bind_some (read (skip_blank text)) _ v g in
          let b = bind_some (after_element right_bracket a.0.1) _ v a.2 in
          more (push_item found a.0.0) b.0 v (items_push found a.0.0 s (reads.sorted (skip_blank text) a.0 a.1)) b.2

  pair_in_order : (text : List ℕ) (e : (Key × Data) × List ℕ) → keyval read text ≡ Some e → is_sorted e.0.1 ≡ true
  pair_in_order text e h =
      let k = bind_some (key_equals text) _ e h in
      let m = map_some (read k.0.1) (λ p. ((k.0.0, p.0), p.1)) e k.2 in
      subst (λ (w : (Key × Data) × List ℕ). is_sorted w.0.1 ≡ true) m.2 (reads.sorted k.0.1 m.0 m.1)

  members_in_order : (n : ℕ) (found : Nodes) (text : List ℕ) (v : Members × List ℕ) → InOrder found → members read n found text ≡ Some v → members_are_sorted v.0 ≡ true
  unfolding members
  members_in_order zero found text v s e = absurd cc
  members_in_order (suc n) found text v s e = by (members_in_order n) (first (skip_blank text) == right_brace) e
    where
      by : ((ns : Nodes) (rest : List ℕ) (w : Members × List ℕ) → InOrder ns → members read n ns rest ≡ Some w → members_are_sorted w.0 ≡ true)
          → (b : Bool) → cond b (Some (close found, drop 1 (skip_blank text)))
          (option_and_then (λ (e : (Key × Data) × List ℕ). option_and_then (λ ns. option_and_then (members read n ns) (after_element right_brace e.1)) (put e.0.0 e.0.1 found)) (keyval read (skip_blank text))) ≡ Some v → members_are_sorted v.0 ≡ true
      by more true g = let same : (close found, drop 1 (skip_blank text)) ≡ v = cc in subst (λ (w : Members × List ℕ). members_are_sorted w.0 ≡ true) same s.holds
      by more false g =
          let a = bind_some (keyval read (skip_blank text)) _ v g in
          let b = bind_some (put a.0.0.0 a.0.0.1 found) _ v a.2 in
          let c = bind_some (after_element right_brace a.0.1) _ v b.2 in
          more b.0 c.0 v ((keeps_put a.0.0.0 a.0.0.1 (pair_in_order (skip_blank text) a.0 a.1)).keeps found b.0 s b.1) c.2

deeper_in_order : (n : ℕ) → ReadsInOrder (val n) → (text : List ℕ) (v : Data × List ℕ) → val (suc n) text ≡ Some v → is_sorted v.0 ≡ true
unfolding val
deeper_in_order n reads text v e = by (first text == left_bracket) (first text == left_brace) e
  where
    by : (a b : Bool) → cond a (read_map array (items (val n) (length text) no_items (drop 1 text))) (cond b (read_map table (members (val n) (length text) no_nodes (drop 1 text))) (atom text)) ≡ Some v → is_sorted v.0 ≡ true
    by true b g =
        let m = map_some (items (val n) (length text) no_items (drop 1 text)) (λ p. (array p.0, p.1)) v g in
        subst (λ (w : Data × List ℕ). is_sorted w.0 ≡ true) m.2 (items_in_order (val n) reads (length text) no_items (drop 1 text) m.0 refl m.1)
    by false true g =
        let m = map_some (members (val n) (length text) no_nodes (drop 1 text)) (λ p. (table p.0, p.1)) v g in
        subst (λ (w : Data × List ℕ). is_sorted w.0 ≡ true) m.2 (members_in_order (val n) reads (length text) no_nodes (drop 1 text) m.0 nothing_in_order m.1)
    by false false g = atom_in_order text v g

flat_in_order : (text : List ℕ) (v : Data × List ℕ) → val zero text ≡ Some v → is_sorted v.0 ≡ true
unfolding val
flat_in_order text v e = atom_in_order text v e

value_in_order : (n : ℕ) → ReadsInOrder (val n)
value_in_order zero = record { sorted = flat_in_order }
value_in_order (suc n) = record { sorted = deeper_in_order n (value_in_order n) }

-- lines

expression_in_order : (text : List ℕ) (e : Expression × List ℕ) → expression text ≡ Some e → DefinesInOrder e.0.1
unfolding expression
expression_in_order text e h = by (first text == left_bracket && slice_index text 1 == left_bracket) (first text == left_bracket) h
  where
    by : (a b : Bool) → cond a (option_and_then (λ (k : Key × List ℕ). option_map (λ rest. ((k.0, array_table), rest)) (after_byte right_bracket k.1)) (header_key (drop 2 text)))
        (cond b (read_map (λ k. (k, std_table)) (header_key (drop 1 text))) (read_map (λ p. (p.0, key_value p.1)) (keyval (val recursion_limit) text))) ≡ Some e → DefinesInOrder e.0.1
    by true b g =
        let k = bind_some (header_key (drop 2 text)) _ e g in
        let m = map_some (after_byte right_bracket k.0.1) (λ rest. ((k.0.0, array_table), rest)) e k.2 in
        subst (λ (w : Expression × List ℕ). DefinesInOrder w.0.1) m.2 refl
    by false true g =
        let m = map_some (header_key (drop 1 text)) (λ p. ((p.0, std_table), p.1)) e g in
        subst (λ (w : Expression × List ℕ). DefinesInOrder w.0.1) m.2 refl
    by false false g =
        let m = map_some (keyval (val recursion_limit) text) (λ p. ((p.0.0, key_value p.0.1), p.1)) e g in
        subst (λ (w : Expression × List ℕ). DefinesInOrder w.0.1) m.2 (pair_in_order (val recursion_limit) (value_in_order recursion_limit) text m.0 m.1)

line_in_order : (text : List ℕ) (e : Expression × List ℕ) → line text ≡ Some e → DefinesInOrder e.0.1
unfolding line
line_in_order text e h =
    let a = bind_some (expression text) _ e h in
    let same = if_some (ends_line (skip_ws a.0.1)) a.0 e a.2 in
    subst (λ (w : Expression × List ℕ). DefinesInOrder w.0.1) same (expression_in_order text a.0 a.1)

lines_in_order : (n : ℕ) (doc : Document) (text : List ℕ) (all : Document) → InOrder doc.0 → lines n doc text ≡ Some all → InOrder all.0
unfolding lines
lines_in_order zero doc text all s e = absurd cc
lines_in_order (suc n) doc text all s e = by (lines_in_order n) (length (skip_blank text) == 0) e
  where
    by : ((d : Document) (rest : List ℕ) (to : Document) → InOrder d.0 → lines n d rest ≡ Some to → InOrder to.0)
        → (b : Bool) → cond b (Some doc) (option_and_then (λ (e : Expression × List ℕ). option_and_then (λ next. lines n next e.1) (define doc e.0)) (line (skip_blank text))) ≡ Some all → InOrder all.0
    by more true g = let same : doc ≡ all = cc in subst (λ (d : Document). InOrder d.0) same s
    by more false g =
        let a = bind_some (line (skip_blank text)) _ all g in
        let b = bind_some (define doc a.0.0) _ all a.2 in
        more b.0 a.0.1 all (order_define doc b.0 a.0.0 s (line_in_order (skip_blank text) a.0 a.1) b.1) b.2

parsed_in_order : (text : List ℕ) (ms : Members) → parse_document text ≡ Some ms → members_are_sorted ms ≡ true
unfolding parse_document
parsed_in_order text ms e =
    let m = map_some (lines (suc (length text)) (no_nodes, []) (skip_bom text)) (λ doc. close doc.0) ms e in
    subst (λ w. members_are_sorted w ≡ true) m.2 (lines_in_order (suc (length text)) (no_nodes, []) (skip_bom text) m.0 nothing_in_order m.1).holds

-- the keys of a document are in order, and those of each table inside
pub document_in_order : (bytes : List ℕ) (ms : Members) → document bytes ≡ Some ms → members_are_sorted ms ≡ true
unfolding document
document_in_order bytes ms e = by (is_utf8 bytes) e
  where
    by : (b : Bool) → cond b (parse_document bytes) None ≡ Some ms → members_are_sorted ms ≡ true
    by true g = parsed_in_order bytes ms g
    by false g = absurd cc
