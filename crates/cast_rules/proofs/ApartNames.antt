-- The names of a block in a right script are different names, and not too many.
use Rattle.std.proofs.Common.{◌≡◌, inl, inr, ◌⊎◌, ℕ, zero, suc, ◌≤◌, List, [], ◌∷◌, ◌++◌, Bool, true, false, not, length, map, flat_map, Some, slice_get, refl, sym, ◌∙◌, ap, subst, arith, append_assoc, bytes_eq, if◌then◌else◌}
use Rattle.std.specs.Prelude.{filter}
use Rattle.std.proofs.lemmas.List.{length-append, length-map}
use Rattle.mono_list.proofs.Cases.{split}
use Rattle.mono_syntax.specs.Limits.{most_names}
use Rattle.mono_syntax.specs.declared.leaf.Place.{Place}
use Rattle.mono_syntax.specs.declared.leaf.Word.{Word}
use Rattle.mono_syntax.specs.declared.refusal.Reason.{Reason}
use Rattle.mono_syntax.specs.declared.refusal.Reason.TheVariants.{TooManyNames}
use Rattle.mono_syntax.specs.declared.tree.FuncDef.{FuncDef}
use Rattle.mono_syntax.specs.declared.tree.Item.{Item}
use Rattle.mono_syntax.specs.declared.tree.Item.TheVariants as item
use Rattle.mono_syntax.specs.declared.tree.Param.{Param}
use Rattle.mono_syntax.specs.declared.tree.Script.{Script}
use Rattle.mono_syntax.specs.Stmt as stmt
use Rattle.mono_syntax.specs.Stmt.{Stmt, Block, Branches, Else}
use Rattle.mono_tree.proofs.MeetMade.{named, name_read}
use Rattle.script_rules.specs.BlockNames.{Target, of_param, targets, block_targets, branch_targets, else_targets, all_targets, starts, block_starts, branch_starts, else_starts, all_starts, elsewhere, firsts}
use Rattle.script_rules.specs.Definitions.{functions_of}
use Rattle.script_rules.specs.NameFaults.{BodyFault, given_again, assigned_thread}
use Rattle.script_rules.specs.NameRules.{gives_name, is_first_name, is_start, StandsBehind}
use Rattle.script_rules.specs.Occurrences.{in_function, in_main, body_of, definitions, bodies}
use Rattle.script_rules.specs.ScopeFaults.{IsRight}
use Rattle.script_rules.specs.Scoping.{function_list, main_block}
use Rattle.script_rules.specs.SizeFaults.{crowded_function, crowded_main}
use Rattle.script_rules.specs.SourceParts.{bound, block_bound, branch_bound, else_bound, first_words, body_bound, block_names}
use Rattle.script_rules.specs.WellFormed.{AreApart}
use Rattle.script_rules.specs.declared.occurrence.Occurrence.{Occurrence}
use Rattle.script_rules.specs.declared.occurrence.Role.{Role}
use Rattle.script_rules.specs.declared.occurrence.Role.TheVariants as role
use Rattle.class_types.proofs.OrderLaws.{In, in-left, in-right, in-cases, in-contains, contains-in}
use Rattle.cast_rules.proofs.Occurring.{is_value, pick, picked_found, target_texts, body_start_texts, body_value_texts, function_starts, function_values}
use Rattle.cast_rules.proofs.Starts.{texts}

-- ---- lists whose elements are apart

record Parted (ys : List (List ℕ)) (x : List ℕ) : Type 0 where
  pub front : List (List ℕ)
  pub back : List (List ℕ)
  pub is : ys ≡ front ++ x ∷ back

parted : (ys : List (List ℕ)) (x : List ℕ) → In x ys → Parted ys x
parted [] x h = absurd h
parted (y ∷ ys) x (inl e) = record { front = []; back = ys; is = ap (λ z. z ∷ ys) e }
parted (y ∷ ys) x (inr h) = let r = parted ys x h in record { front = y ∷ r.front; back = r.back; is = ap (λ l. y ∷ l) r.is }

other : (x z : List ℕ) (front back : List (List ℕ)) → In z (front ++ x ∷ back) → (x ≡ z → ⊥) → In z (front ++ back)
other x z front back h n = elim (in-cases z front (x ∷ back) h) [
  | inl i ↦ in-left z front back i
  | inr i ↦ elim i [ inl e ↦ absurd (n e) | inr j ↦ in-right z front back j ]
]

-- elements that are apart are no more than those among which they are
no_more : (xs ys : List (List ℕ)) → AreApart xs → ((x : List ℕ) → In x xs → In x ys) → length xs ≤ length ys
no_more [] ys a h = omega arith
no_more (x ∷ xs) ys a h =
    let p = parted ys x (h x (inl refl)) in
    let fewer = no_more xs (p.front ++ p.back) a.1 (λ z i.
    other x z p.front p.back (subst (λ (l : List (List ℕ)). In z l) p.is (h z (inr i))) (λ e. a.0 (in-contains x xs (subst (λ (y : List ℕ). In y xs) (sym e) i)))) in
    let whole = ap (λ (l : List (List ℕ)). length l) p.is in
    let long = length-append p.front (x ∷ p.back) in
    let short = length-append p.front p.back in
    omega (arith, fewer, whole, long, short)

apart_append : (xs ys : List (List ℕ)) → AreApart xs → AreApart ys → ((x : List ℕ) → In x xs → In x ys → ⊥) → AreApart (xs ++ ys)
apart_append [] ys a b h = b
apart_append (x ∷ xs) ys a b h = (
  λ c. elim (in-cases x xs ys (contains-in x (xs ++ ys) c)) [ inl i ↦ a.0 (in-contains x xs i) | inr i ↦ h x (inl refl) i ],
  apart_append xs ys a.1 b (λ z i j. h z (inr i) j),
)

map_cases : {A : Type 0} (f : A → List ℕ) (xs ys : List A) (x : List ℕ) → In x (map f (xs ++ ys)) → In x (map f xs) ⊎ In x (map f ys)
map_cases f [] ys x h = inr h
map_cases f (z ∷ xs) ys x (inl e) = inl (inl e)
map_cases f (z ∷ xs) ys x (inr h) = elim (map_cases f xs ys x h) [ inl i ↦ inl (inr i) | inr i ↦ inr i ]

map_left : {A : Type 0} (f : A → List ℕ) (xs ys : List A) (x : List ℕ) → In x (map f xs) → In x (map f (xs ++ ys))
map_left f [] ys x h = absurd h
map_left f (z ∷ xs) ys x (inl e) = inl e
map_left f (z ∷ xs) ys x (inr h) = inr (map_left f xs ys x h)

map_right : {A : Type 0} (f : A → List ℕ) (xs ys : List A) (x : List ℕ) → In x (map f ys) → In x (map f (xs ++ ys))
map_right f [] ys x h = h
map_right f (z ∷ xs) ys x h = inr (map_right f xs ys x h)

-- ---- first words and first targets

abbrev word_text : Word → List ℕ
word_text w = w.text

abbrev target_text : Target → List ℕ
target_text t = t.word.text

not_false : (b : Bool) → b ≡ false → not b ≡ false → ⊥
not_false true e f = cc
not_false false e f = cc

not_true : (b : Bool) → not b ≡ true → b ≡ false
not_true true e = cc
not_true false e = refl

kept : (w : Word) (vs : List Word) (x : List ℕ) → In x (texts vs) → bytes_eq w.text x ≡ false → In x (texts (filter (λ v. not (bytes_eq w.text v.text)) vs))
kept w [] x h e = absurd h
kept w (v ∷ vs) x h e =
    split (not (bytes_eq w.text v.text))
    (λ b. not (bytes_eq w.text v.text) ≡ b → In x (texts (if b then v ∷ filter (λ v. not (bytes_eq w.text v.text)) vs else filter (λ v. not (bytes_eq w.text v.text)) vs)))
    (λ _ _. elim h [ inl q ↦ inl q | inr i ↦ inr (kept w vs x i e) ])
    (λ _ f. elim h [ inl q ↦ absurd (not_false (bytes_eq w.text v.text) (ap (λ (z : List ℕ). bytes_eq w.text z) q ∙ e) f) | inr i ↦ kept w vs x i e ])
    refl

-- a word that stands somewhere stands somewhere first
first_word : (ws : List Word) (x : List ℕ) → In x (texts ws) → In x (texts (first_words ws))
first_word [] x h = absurd h
first_word (w ∷ ws) x (inl e) = inl e
first_word (w ∷ ws) x (inr h) =
    split (bytes_eq w.text x) (λ _. In x (texts (first_words (w ∷ ws)))) (λ e. inl (name_read w.text x e)) (λ e. inr (kept w (first_words ws) x (first_word ws x h) e))

-- a target elsewhere is one, of another name
elsewhere_among : (y : List ℕ) (ts : List Target) (x : List ℕ) → In x (target_texts (elsewhere y ts)) → In x (target_texts ts) × (bytes_eq y x ≡ false)
elsewhere_among y [] x h = absurd h
elsewhere_among y (t ∷ ts) x h =
    split (not (bytes_eq y t.word.text))
    (λ b. not (bytes_eq y t.word.text) ≡ b → In x (target_texts (if b then t ∷ elsewhere y ts else elsewhere y ts)) → In x (target_texts (t ∷ ts)) × (bytes_eq y x ≡ false))
    (λ _ f i. elim i [
      | inl q ↦ (inl q, subst (λ (z : List ℕ). bytes_eq y z ≡ false) q (not_true (bytes_eq y t.word.text) f))
      | inr j ↦ (let r = elsewhere_among y ts x j in (inr r.0, r.1))
    ])
    (λ _ _ i. let r = elsewhere_among y ts x i in (inr r.0, r.1))
    refl h

elsewhere_apart : (y : List ℕ) (ts : List Target) → AreApart (target_texts ts) → AreApart (target_texts (elsewhere y ts))
elsewhere_apart y [] h = tt
elsewhere_apart y (t ∷ ts) h =
    split (not (bytes_eq y t.word.text)) (λ b. AreApart (target_texts (if b then t ∷ elsewhere y ts else elsewhere y ts)))
    (λ _. (
      λ c. h.0 (in-contains t.word.text (target_texts ts) (elsewhere_among y ts t.word.text (contains-in t.word.text (target_texts (elsewhere y ts)) c)).0),
      elsewhere_apart y ts h.1,
    ))
    (λ _. elsewhere_apart y ts h.1)

true_false : (b : Bool) → b ≡ true → b ≡ false → ⊥
true_false b e f = cc

firsts_apart : (ts : List Target) → AreApart (target_texts (firsts ts))
firsts_apart [] = tt
firsts_apart (t ∷ ts) = (
  λ c.
      let r = elsewhere_among t.word.text (firsts ts) t.word.text (contains-in t.word.text (target_texts (elsewhere t.word.text (firsts ts))) c) in
      true_false (bytes_eq t.word.text t.word.text) (named t.word.text t.word.text refl) r.1,
  elsewhere_apart t.word.text (firsts ts) (firsts_apart ts),
)

firsts_among : (ts : List Target) (x : List ℕ) → In x (target_texts (firsts ts)) → In x (target_texts ts)
firsts_among [] x h = absurd h
firsts_among (t ∷ ts) x (inl e) = inl e
firsts_among (t ∷ ts) x (inr h) = inr (firsts_among ts x (elsewhere_among t.word.text (firsts ts) x h).0)

target_kept : (y : List ℕ) (ts : List Target) (x : List ℕ) → In x (target_texts ts) → bytes_eq y x ≡ false → In x (target_texts (elsewhere y ts))
target_kept y [] x h e = absurd h
target_kept y (t ∷ ts) x h e =
    split (not (bytes_eq y t.word.text)) (λ b. not (bytes_eq y t.word.text) ≡ b → In x (target_texts (if b then t ∷ elsewhere y ts else elsewhere y ts)))
    (λ _ _. elim h [ inl q ↦ inl q | inr i ↦ inr (target_kept y ts x i e) ])
    (λ _ f. elim h [ inl q ↦ absurd (not_false (bytes_eq y t.word.text) (ap (λ (z : List ℕ). bytes_eq y z) q ∙ e) f) | inr i ↦ target_kept y ts x i e ])
    refl

-- a name that has a target has a first one
pub first_target : (ts : List Target) (x : List ℕ) → In x (target_texts ts) → In x (target_texts (firsts ts))
first_target [] x h = absurd h
first_target (t ∷ ts) x (inl e) = inl e
first_target (t ∷ ts) x (inr h) =
    split (bytes_eq t.word.text x) (λ _. In x (target_texts (firsts (t ∷ ts)))) (λ e. inl (name_read t.word.text x e))
    (λ e. inr (target_kept t.word.text (firsts ts) x (first_target ts x h) e))

-- ---- all names of a block are counted

mutual
  stmt_start_bound : (l : Stmt) (x : List ℕ) → In x (texts (starts l)) → In x (texts (bound l))
  stmt_start_bound stmt.pass x h = absurd h
  stmt_start_bound (stmt.give p e) x h = absurd h
  stmt_start_bound (stmt.print p es) x h = absurd h
  stmt_start_bound (stmt.assign w a e) x h = absurd h
  stmt_start_bound (stmt.write o w e) x h = absurd h
  stmt_start_bound (stmt.start w p g es) x h = h
  stmt_start_bound (stmt.plain e) x h = absurd h
  stmt_start_bound (stmt.if_any bs last) x h = elim (map_cases word_text (branch_starts bs) (else_starts last) x h) [
    | inl i ↦ map_left word_text (branch_bound bs) (else_bound last) x (branches_start_bound bs x i)
    | inr i ↦ map_right word_text (branch_bound bs) (else_bound last) x (else_start_bound last x i)
  ]
  stmt_start_bound (stmt.loop e b) x h = block_start_bound b x h

  block_start_bound : (b : Block) (x : List ℕ) → In x (texts (block_starts b)) → In x (texts (block_bound b))
  block_start_bound stmt.no_stmts x h = absurd h
  block_start_bound (stmt.more_stmts l b) x h = elim (map_cases word_text (starts l) (block_starts b) x h) [
    | inl i ↦ map_left word_text (bound l) (block_bound b) x (stmt_start_bound l x i)
    | inr i ↦ map_right word_text (bound l) (block_bound b) x (block_start_bound b x i)
  ]

  branches_start_bound : (bs : Branches) (x : List ℕ) → In x (texts (branch_starts bs)) → In x (texts (branch_bound bs))
  branches_start_bound stmt.no_branches x h = absurd h
  branches_start_bound (stmt.more_branches e b bs) x h = elim (map_cases word_text (block_starts b) (branch_starts bs) x h) [
    | inl i ↦ map_left word_text (block_bound b) (branch_bound bs) x (block_start_bound b x i)
    | inr i ↦ map_right word_text (block_bound b) (branch_bound bs) x (branches_start_bound bs x i)
  ]

  else_start_bound : (l : Else) (x : List ℕ) → In x (texts (else_starts l)) → In x (texts (else_bound l))
  else_start_bound stmt.no_else x h = absurd h
  else_start_bound (stmt.otherwise b) x h = block_start_bound b x h

body_start_bound : (ss : List Stmt) (x : List ℕ) → In x (texts (flat_map starts ss)) → In x (texts (body_bound ss))
body_start_bound [] x h = absurd h
body_start_bound (l ∷ ss) x h = elim (map_cases word_text (starts l) (flat_map starts ss) x h) [
  | inl i ↦ map_left word_text (bound l) (body_bound ss) x (stmt_start_bound l x i)
  | inr i ↦ map_right word_text (bound l) (body_bound ss) x (body_start_bound ss x i)
]

mutual
  stmt_target_bound : (l : Stmt) (x : List ℕ) → In x (target_texts (targets l)) → In x (texts (bound l))
  stmt_target_bound stmt.pass x h = absurd h
  stmt_target_bound (stmt.give p e) x h = absurd h
  stmt_target_bound (stmt.print p es) x h = absurd h
  stmt_target_bound (stmt.assign w a e) x h = h
  stmt_target_bound (stmt.write o w e) x h = absurd h
  stmt_target_bound (stmt.start w p g es) x h = absurd h
  stmt_target_bound (stmt.plain e) x h = absurd h
  stmt_target_bound (stmt.if_any bs last) x h = elim (map_cases target_text (branch_targets bs) (else_targets last) x h) [
    | inl i ↦ map_left word_text (branch_bound bs) (else_bound last) x (branches_target_bound bs x i)
    | inr i ↦ map_right word_text (branch_bound bs) (else_bound last) x (else_target_bound last x i)
  ]
  stmt_target_bound (stmt.loop e b) x h = block_target_bound b x h

  block_target_bound : (b : Block) (x : List ℕ) → In x (target_texts (block_targets b)) → In x (texts (block_bound b))
  block_target_bound stmt.no_stmts x h = absurd h
  block_target_bound (stmt.more_stmts l b) x h = elim (map_cases target_text (targets l) (block_targets b) x h) [
    | inl i ↦ map_left word_text (bound l) (block_bound b) x (stmt_target_bound l x i)
    | inr i ↦ map_right word_text (bound l) (block_bound b) x (block_target_bound b x i)
  ]

  branches_target_bound : (bs : Branches) (x : List ℕ) → In x (target_texts (branch_targets bs)) → In x (texts (branch_bound bs))
  branches_target_bound stmt.no_branches x h = absurd h
  branches_target_bound (stmt.more_branches e b bs) x h = elim (map_cases target_text (block_targets b) (branch_targets bs) x h) [
    | inl i ↦ map_left word_text (block_bound b) (branch_bound bs) x (block_target_bound b x i)
    | inr i ↦ map_right word_text (block_bound b) (branch_bound bs) x (branches_target_bound bs x i)
  ]

  else_target_bound : (l : Else) (x : List ℕ) → In x (target_texts (else_targets l)) → In x (texts (else_bound l))
  else_target_bound stmt.no_else x h = absurd h
  else_target_bound (stmt.otherwise b) x h = block_target_bound b x h

body_target_bound : (ss : List Stmt) (x : List ℕ) → In x (target_texts (flat_map targets ss)) → In x (texts (body_bound ss))
body_target_bound [] x h = absurd h
body_target_bound (l ∷ ss) x h = elim (map_cases target_text (targets l) (flat_map targets ss) x h) [
  | inl i ↦ map_left word_text (bound l) (body_bound ss) x (stmt_target_bound l x i)
  | inr i ↦ map_right word_text (bound l) (body_bound ss) x (body_target_bound ss x i)
]

param_bound : (ps : List Param) (x : List ℕ) → In x (target_texts (map of_param ps)) → In x (texts (map (λ p. p.name) ps))
param_bound [] x h = absurd h
param_bound (p ∷ ps) x (inl e) = inl e
param_bound (p ∷ ps) x (inr h) = inr (param_bound ps x h)

abbrev words : List Param → List Word
words ps = map (λ p. p.name) ps

target_counted : (ps : List Param) (ss : List Stmt) (x : List ℕ) → In x (target_texts (all_targets ps ss)) → In x (texts (block_names ps ss))
target_counted ps ss x h = first_word (words ps ++ body_bound ss) x (elim (map_cases target_text (map of_param ps) (flat_map targets ss) x h) [
  | inl i ↦ map_left word_text (words ps) (body_bound ss) x (param_bound ps x i)
  | inr i ↦ map_right word_text (words ps) (body_bound ss) x (body_target_bound ss x i)
])

start_counted : (ps : List Param) (ss : List Stmt) (x : List ℕ) → In x (texts (all_starts ss)) → In x (texts (block_names ps ss))
start_counted ps ss x h = first_word (words ps ++ body_bound ss) x (map_right word_text (words ps) (body_bound ss) x (body_start_bound ss x h))

short : (ws : List Word) (n : ℕ) → ((w : Word) → slice_get ws n ≡ Some w → ⊥) → length ws ≤ n
short [] n h = omega arith
short (w ∷ ws) zero h = absurd (h w refl)
short (w ∷ ws) (suc n) h = let k = short ws n h in omega (arith, k)

-- ---- two occurrences in a list

pub stands_in : (os : List Occurrence) (o : Occurrence) → In o os → (before : List Occurrence) × StandsBehind os before o
stands_in [] o h = absurd h
stands_in (p ∷ os) o (inl e) = ([], record { after = os; whole = ap (λ q. q ∷ os) e })
stands_in (p ∷ os) o (inr h) =
    let r = stands_in os o h in
    (p ∷ r.0, record { after = r.1.after; whole = ap (λ l. p ∷ l) r.1.whole })

-- the second stands behind the first
record Behind (os : List Occurrence) (a b : Occurrence) : Type 0 where
  pub before : List Occurrence
  pub stands : StandsBehind os before b
  pub among : In a before

deeper : (o : Occurrence) (os : List Occurrence) (a b : Occurrence) → Behind os a b → Behind (o ∷ os) a b
deeper o os a b h = record { before = o ∷ h.before; stands = record { after = (h.stands).after; whole = ap (λ l. o ∷ l) (h.stands).whole }; among = inr h.among }

at_head : (o : Occurrence) (os : List Occurrence) (a b : Occurrence) → o ≡ a → In b os → Behind (o ∷ os) a b
at_head o os a b e i =
    let r = stands_in os b i in
    record { before = o ∷ r.0; stands = record { after = r.1.after; whole = ap (λ l. o ∷ l) r.1.whole }; among = inl e }

in_order_of : (os : List Occurrence) (a b : Occurrence) → In a os → In b os → (a ≡ b) ⊎ (Behind os a b ⊎ Behind os b a)
in_order_of [] a b h k = absurd h
in_order_of (o ∷ os) a b (inl p) (inl q) = inl (sym p ∙ q)
in_order_of (o ∷ os) a b (inl p) (inr j) = inr (inl (at_head o os a b p j))
in_order_of (o ∷ os) a b (inr i) (inl q) = inr (inr (at_head o os b a q i))
in_order_of (o ∷ os) a b (inr i) (inr j) = elim (in_order_of os a b i j) [
  | inl e ↦ inl e
  | inr k ↦ elim k [ inl x ↦ inr (inl (deeper o os a b x)) | inr x ↦ inr (inr (deeper o os b a x)) ]
]

-- ---- roles

start_first : (r : Role) → is_start r ≡ true → is_first_name r ≡ true
start_first role.Started e = refl
start_first _ e = absurd cc

pub start_gives : (r : Role) → is_start r ≡ true → gives_name r ≡ true
start_gives role.Started e = refl
start_gives _ e = absurd cc

value_gives : (r : Role) → is_value r ≡ true → gives_name r ≡ true
value_gives role.Parameter e = refl
value_gives role.Assigned e = refl
value_gives role.Annotated e = refl
value_gives _ e = absurd cc

value_is : (r : Role) → is_value r ≡ true → (is_first_name r ≡ true) ⊎ (r ≡ role.Assigned)
value_is role.Parameter e = inl refl
value_is role.Assigned e = inr refl
value_is role.Annotated e = inl refl
value_is _ e = absurd cc

value_no_start : (r : Role) → is_value r ≡ true → is_start r ≡ true → ⊥
value_no_start role.Started e f = cc
value_no_start _ e f = cc

-- ---- a part of a right script

module _ (s : Script) (right : IsRight s) (body : List Occurrence) (part : In body (bodies s)) where
  pub faultless : (p : Place) (r : Reason) → BodyFault (definitions s) body p r → ⊥
  faultless p r f = right.names p r (inl (record { body = body; part = in-contains body (bodies s) part; fault = f }))

  again : (front : List Occurrence) (o : Occurrence) (rest : List Occurrence) → body ≡ front ++ o ∷ rest → is_start o.role ≡ true → In o.text (pick is_start rest) → ⊥
  again front o rest e t i =
      let f = picked_found is_start rest o.text i in
      let q = f.occurrence in
      let st = stands_in rest q f.among in
      let before = front ++ o ∷ st.0 in
      let whole : body ≡ before ++ q ∷ st.1.after = e ∙ ap (λ l. front ++ o ∷ l) st.1.whole ∙ sym (append_assoc front (o ∷ st.0) (q ∷ st.1.after)) in
      let member = in-contains o before (in-right o front (o ∷ st.0) (inl refl)) in
      faultless q.place _ (given_again before q (record { after = st.1.after; whole = whole }) (start_first q.role f.role)
      (record { occurrence = o; member = member; role = start_gives o.role t; text = sym f.text }) refl)

  starts_apart : (front rest : List Occurrence) → body ≡ front ++ rest → AreApart (pick is_start rest)
  starts_apart front [] e = tt
  starts_apart front (o ∷ rest) e =
      let next = starts_apart (front ++ o ∷ []) rest (e ∙ sym (append_assoc front (o ∷ []) rest)) in
      split (is_start o.role) (λ b. is_start o.role ≡ b → AreApart (if b then o.text ∷ pick is_start rest else pick is_start rest))
      (λ _ t. ((λ c. again front o rest e t (contains-in o.text (pick is_start rest) c)), next)) (λ _ _. next) refl

  value_behind : (a b : Occurrence) → is_start a.role ≡ true → is_value b.role ≡ true → a.text ≡ b.text → Behind body a b → ⊥
  value_behind a b h k e t = elim (value_is b.role k) [
    | inl first ↦ faultless b.place _ (given_again t.before b t.stands first
        (record { occurrence = a; member = in-contains a t.before t.among; role = start_gives a.role h; text = e }) refl)
    | inr assigned ↦ faultless b.place _ (assigned_thread t.before b t.stands assigned
        (record { occurrence = a; member = in-contains a t.before t.among; role = h; text = e }) refl)
  ]

  start_behind : (a b : Occurrence) → is_value a.role ≡ true → is_start b.role ≡ true → a.text ≡ b.text → Behind body a b → ⊥
  start_behind a b h k e t = faultless b.place _ (given_again t.before b t.stands (start_first b.role k)
      (record { occurrence = a; member = in-contains a t.before t.among; role = value_gives a.role h; text = e }) refl)

  value_or_start : (x : List ℕ) → In x (pick is_value body) → In x (pick is_start body) → ⊥
  value_or_start x h k =
      let f = picked_found is_value body x h in
      let g = picked_found is_start body x k in
      let a = f.occurrence in
      let b = g.occurrence in
      elim (in_order_of body a b f.among g.among) [
        | inl e ↦ value_no_start b.role (ap (λ (z : Occurrence). is_value z.role) (sym e) ∙ f.role) g.role
        | inr o ↦ elim o [ inl t ↦ start_behind a b f.role g.role (f.text ∙ sym g.text) t | inr t ↦ value_behind b a g.role f.role (g.text ∙ sym f.text) t ]
      ]

  -- the names of the block that this part has
  pub block_apart : (ts : List Target) (ws : List Word) → pick is_value body ≡ target_texts ts → pick is_start body ≡ texts ws → AreApart (target_texts (firsts ts) ++ texts ws)
  block_apart ts ws v w =
      let started : AreApart (texts ws) = subst AreApart w (starts_apart [] body refl) in
      apart_append (target_texts (firsts ts)) (texts ws) (firsts_apart ts) started
      (λ x i j. value_or_start x (subst (λ (l : List (List ℕ)). In x l) (sym v) (firsts_among ts x i)) (subst (λ (l : List (List ℕ)). In x l) (sym w) j))

-- the names of a block with these parameters and statements
abbrev pub names_of_block : List Param → List Stmt → List (List ℕ)
names_of_block ps ss = target_texts (firsts (all_targets ps ss)) ++ texts (all_starts ss)

pub record AreFewNames (ps : List Param) (ss : List Stmt) : Type 0 where
  pub apart : AreApart (names_of_block ps ss)
  pub few : length (names_of_block ps ss) ≤ most_names

few_names : (ps : List Param) (ss : List Stmt) → AreApart (names_of_block ps ss) → ((w : Word) → slice_get (block_names ps ss) most_names ≡ Some w → ⊥) → AreFewNames ps ss
few_names ps ss a h =
    let counted = no_more (names_of_block ps ss) (texts (block_names ps ss)) a (λ x i. elim (in-cases x (target_texts (firsts (all_targets ps ss))) (texts (all_starts ss)) i) [
      | inl j ↦ target_counted ps ss x (firsts_among (all_targets ps ss) x j)
      | inr j ↦ start_counted ps ss x j
    ]) in
    let long = length-map (block_names ps ss) word_text in
    let limit = short (block_names ps ss) most_names h in
    record { apart = a; few = omega (arith, counted, long, limit) }

function_body : (is : List Item) (d : FuncDef) → In d (functions_of is) → In (in_function d) (flat_map body_of is)
function_body [] d h = absurd h
function_body (item.Def c ∷ is) d (inl e) = inl (ap in_function e)
function_body (item.Def c ∷ is) d (inr h) = inr (function_body is d h)
function_body (item.Class c ∷ is) d h = inr (function_body is d h)
function_body (item.Stmt c ∷ is) d h = function_body is d h

pub function_part : (s : Script) (d : FuncDef) → In d (function_list s) → In (in_function d) (bodies s)
function_part s d h = inr (in-left (in_function d) (flat_map body_of s.items) (in_main s ∷ []) (function_body s.items d h))

pub main_part : (s : Script) → In (in_main s) (bodies s)
main_part s = inr (in-right (in_main s) (flat_map body_of s.items) (in_main s ∷ []) (inl refl))

pub function_names_few : (s : Script) → IsRight s → (d : FuncDef) → In d (function_list s) → AreFewNames d.params d.body
function_names_few s right d h =
    let apart = block_apart s right (in_function d) (function_part s d h) (all_targets d.params d.body) (all_starts d.body) (function_values d) (function_starts d) in
    few_names d.params d.body apart (λ w e. right.sizes w.place TooManyNames (crowded_function d w (in-contains d (function_list s) h) e refl))

pub main_names_few : (s : Script) → IsRight s → AreFewNames [] (main_block s)
main_names_few s right =
    let apart = block_apart s right (in_main s) (main_part s) (all_targets [] (main_block s)) (all_starts (main_block s)) (body_value_texts (main_block s)) (body_start_texts (main_block s)) in
    few_names [] (main_block s) apart (λ w e. right.sizes w.place TooManyNames (crowded_main w e refl))
