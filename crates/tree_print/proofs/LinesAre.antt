-- The printed lines of a tree that the grammar gives for sound tokens are lines that can be written.
use Rattle.std.proofs.Common.{ℕ, suc, ◌+◌, ◌≤◌, Bool, List, [], ◌∷◌, ◌++◌, Option, refl, arith, append_assoc, append-nil}
use Rattle.std.specs.List.{All}
use Rattle.std.proofs.lemmas.List.Elements.{All-from_recursion, recursion_from_All}
use Rattle.mono_syntax.specs.declared.tree.Branch.{Branch}
use Rattle.mono_syntax.specs.declared.tree.ClassDef.{ClassDef}
use Rattle.mono_syntax.specs.declared.tree.FieldDef.{FieldDef}
use Rattle.mono_syntax.specs.declared.tree.FuncDef.{FuncDef}
use Rattle.mono_syntax.specs.declared.tree.Item.{Item}
use Rattle.mono_syntax.specs.declared.tree.Param.{Param}
use Rattle.mono_syntax.specs.declared.tree.Script.{Script}
use Rattle.mono_syntax.specs.Ann.{Ann}
use Rattle.mono_syntax.specs.ExprView.{exprs}
use Rattle.mono_syntax.specs.Stmt as stmt
use Rattle.mono_syntax.specs.StmtView.{block, branches}
use Rattle.spelled_tokens.specs.declared.token.Mark.TheVariants as mark
use Rattle.spelled_tokens.specs.declared.token.Spelled.{Spelled}
use Rattle.spelled_tokens.specs.declared.token.What.TheVariants as what
use Rattle.token_lines.specs.declared.printed.Printed.{Printed}
use Rattle.token_lines.specs.declared.printed.Printed.TheVariants.{Plain}
use Rattle.token_lines.specs.Lines.{Line, line}
use Rattle.token_lines.specs.Tokens.{what_of}
use Rattle.token_lines.specs.Writable.{IsSound, IsWritable, IsLine, AreLines}
use Rattle.parse_script.specs.Definitions as ds
use Rattle.parse_script.specs.Definitions.{DerivesField, DerivesFields, DerivesClass, DerivesParam, DerivesParams, DerivesResult, DerivesDef}
use Rattle.parse_script.specs.Script as sc
use Rattle.parse_script.specs.Script.{DerivesItem, DerivesItems, DerivesWhole}
use Rattle.parse_script.specs.Statements as st
use Rattle.mono_syntax.specs.Limits.{greatest_weight}
use Rattle.parse_script.specs.Statements.{DerivesStmt, DerivesTail, DerivesBlock, DerivesStmts}
use Rattle.tree_print.specs.Brackets.{expr_tokens, more_exprs_tokens, placed}
use Rattle.tree_print.specs.ScriptLines as lines
use Rattle.tree_print.proofs.Rows.{AreSound, front, back, IsRow, row_end, row_word, row_open, row_close, row_together, IsSome, some_word, some_before}
use Rattle.tree_print.proofs.TreeRows.{type_row, placed_row, expr_row, args_row, whole_row, expr_some}

-- ---- lines before others that are lines

-- these lines may stand behind a line that is one block less deep, or deeper
record Starts (d : ℕ) (ls : List Line) : Type 0 where
  pub are : (before : ℕ) (rest : List Line) → d ≤ before + 1 → ((b : ℕ) → d ≤ b → AreLines b rest) → AreLines before (ls ++ rest)

-- these may stand behind a line as deep, or deeper; there may be none
record Goes (d : ℕ) (ls : List Line) : Type 0 where
  pub are : (before : ℕ) (rest : List Line) → d ≤ before → ((b : ℕ) → d ≤ b → AreLines b rest) → AreLines before (ls ++ rest)

goes : {d : ℕ} {ls : List Line} → Starts d ls → Goes d ls
goes {d} {ls} h = record { are = λ before rest l k. h.are before rest (omega (arith, l)) k }

goes_end : {d : ℕ} → Goes d []
goes_end {d} = record { are = λ before rest l k. k before l }

starts_together : {d : ℕ} {xs ys : List Line} → Starts d xs → Goes d ys → Starts d (xs ++ ys)
starts_together {d} {xs} {ys} h j = record {
  are = λ before rest l k. rw (append_assoc xs ys rest) (h.are before (ys ++ rest) l (λ b m. j.are b rest m k));
}

goes_together : {d : ℕ} {xs ys : List Line} → Goes d xs → Goes d ys → Goes d (xs ++ ys)
goes_together {d} {xs} {ys} h j = record {
  are = λ before rest l k. rw (append_assoc xs ys rest) (h.are before (ys ++ rest) l (λ b m. j.are b rest m k));
}

-- a row of tokens is a line
row_line : (before d : ℕ) (ts : List Printed) → d ≤ before + 1 → IsSome ts → IsRow 0 ts → IsLine before (line d ts)
row_line before d ts l s h = record {
  depth = l;
  some = s.some;
  writable = All-from_recursion (λ t. IsWritable (what_of t)) ts h.writable;
  closed = h.closed 0 0 (omega arith);
}

one_line : {d : ℕ} {ts : List Printed} → IsSome ts → IsRow 0 ts → Starts d (line d ts ∷ [])
one_line {d} {ts} s h = record { are = λ before rest l k. (row_line before d ts l s h, k d (omega arith)) }

-- a line with a block of its own
with_block : {d : ℕ} {ts : List Printed} {body : List Line} → IsSome ts → IsRow 0 ts → Starts (suc d) body → Starts d (line d ts ∷ body)
with_block {d} {ts} {body} s h j = record {
  are = λ before rest l k. (row_line before d ts l s h, j.are d rest (omega arith) (λ b m. k b (omega (arith, m))));
}

-- ---- statements

-- a row of two parts, before another
row_three : {k : ℕ} (xs ys zs : List Printed) → IsRow 0 (xs ++ ys) → IsRow k zs → IsRow k (xs ++ (ys ++ zs))
row_three xs ys zs h j = rw (← append_assoc xs ys zs) (row_together h j)

colon_end : IsRow 0 (Plain (what.Mark mark.Colon) ∷ [])
colon_end = row_word tt (λ n. refl) row_end

mutual
  stmt_starts : {i : Bool} {d : ℕ} {ts : List Spelled} {s : stmt.Stmt} → DerivesStmt i d ts s → AreSound ts → Starts d (lines.stmt_lines d s)
  stmt_starts (st.pass d p q) h = one_line some_word (row_word tt (λ n. refl) row_end)
  stmt_starts (st.give_none d p q i) h = one_line some_word (row_word tt (λ n. refl) row_end)
  stmt_starts (st.give d p q ts e i k) h = one_line some_word (row_word tt (λ n. refl) (whole_row greatest_weight ts e k (front ts _ h.1)))
  stmt_starts (st.print d p q r s ts w es k l) h =
      one_line some_word (row_word tt (λ n. refl) (row_open (row_together (args_row k (front ts _ h.1.1)).0 (row_close row_end))))
  stmt_starts (st.assign d p q r x ts e k) h =
      one_line some_word (row_word h.0 (λ n. refl) (row_word tt (λ n. refl) (whole_row greatest_weight ts e k (front ts _ h.1.1))))
  stmt_starts (st.declare d p q r s x us a ts e t k) h =
      one_line some_word (row_word h.0 (λ n. refl) (row_word tt (λ n. refl) (row_together (type_row greatest_weight us a t (front us _ h.1.1))
      (row_word tt (λ n. refl) (whole_row greatest_weight ts e k (front ts _ (back us _ h.1.1).1))))))
  stmt_starts (st.write d p q r s x us w o ts e k l m) h =
      one_line (some_before (placed 8 o (expr_tokens o)) _ _) (row_together (placed_row 8 o _ (expr_row k (front us _ h)))
      (row_word tt (λ n. refl) (row_word (back us _ h).1.0 (λ n. refl) (row_word tt (λ n. refl) (whole_row greatest_weight ts e m (front ts _ (back us _ h).1.1.1))))))
  stmt_starts (st.start d p q r s t u x ts w e es k l) h =
      one_line some_word (row_word h.0 (λ n. refl) (row_word tt (λ n. refl) (row_word tt (λ n. refl) (row_open
      (row_three (expr_tokens e) (more_exprs_tokens (exprs es)) _ (args_row k (front ts _ h.1.1.1.1)).0 (row_close row_end))))))
  stmt_starts (st.plain d q ts e k) h = one_line (expr_some e) (whole_row greatest_weight ts e k (front ts _ h))
  stmt_starts (st.if_any d p q ts e us ss vs bs el l k b t) h =
      let rest = (back ts _ h.1).1 in
      let tail = tail_goes t (back us vs rest) in
      starts_together (starts_together (with_block some_word (row_word tt (λ n. refl) (row_together (whole_row greatest_weight ts e k (front ts _ h.1)) colon_end))
      (block_starts b (front us vs rest))) tail.0) tail.1
  stmt_starts (st.while d p q ts e us ss l k b) h =
      with_block some_word (row_word tt (λ n. refl) (row_together (whole_row greatest_weight ts e k (front ts _ h.1)) colon_end)) (block_starts b (back ts _ h.1).1)

  tail_goes : {i : Bool} {d : ℕ} {ts : List Spelled} {bs : List Branch} {el : stmt.Else} → DerivesTail i d ts bs el → AreSound ts
      → Goes d (lines.branches_lines d mark.Elif (branches bs)) × Goes d (lines.else_lines d el)
  tail_goes (st.no_else d) h = (goes_end, goes_end)
  tail_goes (st.elif d p q ts e us ss vs bs el k b t) h =
      let rest = (back ts _ h.1).1 in
      let tail = tail_goes t (back us vs rest) in (
        goes (starts_together (with_block some_word (row_word tt (λ n. refl) (row_together (whole_row greatest_weight ts e k (front ts _ h.1)) colon_end))
            (block_starts b (front us vs rest))) tail.0),
        tail.1,
      )
  tail_goes (st.otherwise d p q us ss b) h = (goes_end, goes (with_block some_word (row_word tt (λ n. refl) colon_end) (block_starts b h.1.1)))

  block_starts : {i : Bool} {d : ℕ} {ts : List Spelled} {ss : List stmt.Stmt} → DerivesBlock i d ts ss → AreSound ts → Starts d (lines.block_lines d (block ss))
  block_starts (st.indented d p q r us ss k) h = stmts_start k (front us _ h.1.1)

  stmts_start : {i : Bool} {d : ℕ} {ts : List Spelled} {ss : List stmt.Stmt} → DerivesStmts i d ts ss → AreSound ts → Starts d (lines.block_lines d (block ss))
  stmts_start (st.one_stmt d ts s k) h = starts_together (stmt_starts k h) goes_end
  stmts_start (st.more_stmts d ts us s ss k l) h = starts_together (stmt_starts k (front ts us h)) (goes (stmts_start l (back ts us h)))

-- ---- classes and functions

field_starts : {ts : List Spelled} {f : FieldDef} → DerivesField ts f → AreSound ts → Starts 1 (lines.field_line f ∷ [])
field_starts (ds.field p q r x ts a k) h = one_line some_word (row_word h.0 (λ n. refl) (row_word tt (λ n. refl) (type_row greatest_weight ts a k (front ts _ h.1.1))))

fields_start : {ts : List Spelled} {fs : List FieldDef} → DerivesFields ts fs → AreSound ts → Starts 1 (lines.fields_lines fs)
fields_start (ds.one_field ts f k) h = field_starts k h
fields_start (ds.more_fields ts us f fs k l) h = starts_together (field_starts k (front ts us h)) (goes (fields_start l (back ts us h)))

-- the body of a class with fields is their lines
body_starts : {ts : List Spelled} {fs : List FieldDef} → DerivesFields ts fs → AreSound ts → Starts 1 (lines.body_lines fs)
body_starts (ds.one_field ts f k) h = fields_start (ds.one_field ts f k) h
body_starts (ds.more_fields ts us f fs k l) h = fields_start (ds.more_fields ts us f fs k l) h

class_starts : {ts : List Spelled} {c : ClassDef} → DerivesClass ts c → AreSound ts → Starts 0 (lines.class_lines c)
class_starts (ds.no_fields p q r s t u v w x) h =
    with_block some_word (row_word tt (λ n. refl) (row_word h.1.0 (λ n. refl) colon_end)) (one_line some_word (row_word tt (λ n. refl) row_end))
class_starts (ds.fields p q r s t u x us fs k) h =
    with_block some_word (row_word tt (λ n. refl) (row_word h.1.0 (λ n. refl) colon_end)) (body_starts k (front us _ h.1.1.1.1.1))

param_row : {ts : List Spelled} {x : Param} → DerivesParam ts x → AreSound ts → IsRow 0 (lines.param_tokens x)
param_row (ds.bare p x) h = row_word h.0 (λ n. refl) row_end
param_row (ds.typed p q x ts a k) h = row_word h.0 (λ n. refl) (row_word tt (λ n. refl) (type_row greatest_weight ts a k h.1.1))

-- with no comma before them, and with one
params_row : {ts : List Spelled} {xs : List Param} → DerivesParams ts xs → AreSound ts → IsRow 0 (lines.params_tokens xs) × IsRow 0 (lines.more_params_tokens xs)
params_row ds.no_params h = (row_end, row_end)
params_row (ds.last_param ts x k) h =
    let one = row_together (param_row k h) row_end in
    (one, row_word tt (λ n. refl) one)
params_row (ds.more_params p ts us x xs k l) h =
    let all = row_together (param_row k (front ts _ h)) (params_row l (back ts _ h).1).1 in
    (all, row_word tt (λ n. refl) all)

result_row : {ts : List Spelled} {a : Option Ann} → DerivesResult ts a → AreSound ts → IsRow 0 (lines.result_tokens a)
result_row ds.no_result h = row_end
result_row (ds.result p ts a k) h = row_word tt (λ n. refl) (type_row greatest_weight ts a k h.1)

def_starts : {ts : List Spelled} {f : FuncDef} → DerivesDef ts f → AreSound ts → Starts 0 (lines.def_lines f)
def_starts (ds.def p q r s t x us xs rs a bs ss k l b) h =
    let behind = (back us _ h.1.1.1).1 in
    with_block some_word (row_word tt (λ n. refl) (row_word h.1.0 (λ n. refl) (row_open (row_together (params_row k (front us _ h.1.1.1)).0
    (row_close (row_together (result_row l (front rs _ behind)) colon_end)))))) (block_starts b (back rs _ behind).1)

-- ---- scripts

item_starts : {ts : List Spelled} {i : Item} → DerivesItem ts i → AreSound ts → Starts 0 (lines.item_lines i)
item_starts (sc.class ts c d) h = class_starts d h
item_starts (sc.def ts f d) h = def_starts d h
item_starts (sc.statement ts s d) h = stmt_starts d h

items_go : {ts : List Spelled} {is : List Item} → DerivesItems ts is → AreSound ts → Goes 0 (lines.items_lines is)
items_go sc.no_items h = goes_end
items_go (sc.more_items ts us i is d k) h = goes_together (goes (item_starts d (front ts us h))) (items_go k (back ts us h))

-- lines with nothing behind them
ending : (ls : List Line) → Goes 0 ls → AreLines 0 ls
ending ls h = rw append-nil at (h.are 0 [] (omega arith) (λ b l. tt))

whole_lines : (ts : List Spelled) (s : Script) → DerivesWhole ts s → AreSound ts → AreLines 0 (lines.script_lines s)
whole_lines ts s (sc.script p us is d) h = ending _ (items_go d (front us _ h))

-- the printed lines of a tree of sound tokens can be written
pub lines_are : (ts : List Spelled) (s : Script) → DerivesWhole ts s → All (λ t. IsSound t.what) ts → AreLines 0 (lines.script_lines s)
lines_are ts s d h = whole_lines ts s d (recursion_from_All (λ t. IsSound t.what) ts h)
