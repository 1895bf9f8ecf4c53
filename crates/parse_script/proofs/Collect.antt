-- The statements of a block, from the stages inside it, and back.
use Rattle.std.proofs.Common.{◌≡◌, ℕ, ◌+◌, Bool, true, List, [], ◌∷◌, ◌++◌, length, refl, sym, ◌∙◌, ap, subst, append_assoc}
use Rattle.std.proofs.lemmas.List.{append-nil}
use Rattle.mono_syntax.specs.declared.leaf.Place.{Place}
use Rattle.mono_syntax.specs.declared.tree.Item.{Item}
use Rattle.mono_syntax.specs.Stmt.{Stmt}
use Rattle.spelled_tokens.specs.declared.token.Mark.TheVariants as mark
use Rattle.spelled_tokens.specs.declared.token.Spelled.{Spelled}
use Rattle.spelled_tokens.specs.SpelledTokens.{sign}
use Rattle.parse_script.specs.declared.stage.DefHead.{DefHead}
use Rattle.parse_script.specs.declared.stage.Floor.{Floor}
use Rattle.parse_script.specs.declared.stage.Floor.TheVariants as floor
use Rattle.parse_script.specs.declared.stage.Opened.{Opened}
use Rattle.parse_script.specs.computed.Reading.{is_def, floor_depth}
use Rattle.parse_script.specs.Statements.{DerivesStmt, DerivesStmts, one_stmt, more_stmts}
use Rattle.parse_script.proofs.Rest.{RestStart, statement, closes, RestLeft}

-- any number of statements
pub data AnyStmts (inside : Bool) : ℕ → List Spelled → List Stmt → Type 0 where
  nothing : (d : ℕ) → AnyStmts inside d [] []
  more : (d : ℕ) (ts us : List Spelled) (s : Stmt) (ss : List Stmt) → DerivesStmt inside d ts s → AnyStmts inside d us ss → AnyStmts inside d (ts ++ us) (s ∷ ss)

pub some_stmts : (inside : Bool) (d : ℕ) (ts us : List Spelled) (s : Stmt) (ss : List Stmt) → DerivesStmt inside d ts s → AnyStmts inside d us ss → DerivesStmts inside d (ts ++ us) (s ∷ ss)
some_stmts inside d ts us s ss h (nothing e) = subst (λ (l : List Spelled). DerivesStmts inside d l (s ∷ [])) (sym (append-nil ts)) (one_stmt d ts s h)
some_stmts inside d ts us s ss h (more e vs ws r rs i a) = more_stmts d ts (vs ++ ws) s (r ∷ rs) h (some_stmts inside d vs ws r rs i a)

pub any_stmts : (inside : Bool) (d : ℕ) (ts : List Spelled) (ss : List Stmt) → DerivesStmts inside d ts ss → AnyStmts inside d ts ss
any_stmts inside d ts ss (one_stmt e us s h) = subst (λ (l : List Spelled). AnyStmts inside d l (s ∷ [])) (append-nil us) (more d us [] s [] h (nothing d))
any_stmts inside d ts ss (more_stmts e us vs s rs h a) = more d us vs s rs h (any_stmts inside d vs rs a)

-- the rest of a block whose statements so far are done: more statements, and DEDENT
pub record Collected (f : Floor) (k : List Opened) (done : List Stmt) (ts : List Spelled) (all : List Item) : Type 0 where
  pub part : List Spelled
  pub stmts : List Stmt
  pub place : Place
  pub behind : List Spelled
  pub any : AnyStmts (is_def f) (length k + floor_depth f) part stmts
  pub split : ts ≡ part ++ (sign mark.Dedent place ∷ behind)
  pub left : RestLeft f k (done ++ stmts) behind all

before : (f : Floor) (k : List Opened) (done : List Stmt) (us vs ts : List Spelled) (s : Stmt) (all : List Item) → DerivesStmt (is_def f) (length k + floor_depth f) us s → ts ≡ us ++ vs
    → Collected f k (done ++ (s ∷ [])) vs all → Collected f k done ts all
before f k done us vs ts s all d e c =
    record {
      part = us ++ c.part;
      stmts = s ∷ c.stmts;
      place = c.place;
      behind = c.behind;
      any = more (length k + floor_depth f) us c.part s c.stmts d c.any;
      split = e ∙ ap (λ (l : List Spelled). us ++ l) c.split ∙ sym (append_assoc us c.part (sign mark.Dedent c.place ∷ c.behind));
      left = subst (λ (l : List Stmt). RestLeft f k l c.behind all) (append_assoc done (s ∷ []) c.stmts) c.left;
    }

at_end : (f : Floor) (k : List Opened) (done : List Stmt) (p : Place) (vs : List Spelled) (all : List Item) → RestLeft f k done vs all → Collected f k done (sign mark.Dedent p ∷ vs) all
at_end f k done p vs all l =
    record { part = []; stmts = []; place = p; behind = vs; any = nothing (length k + floor_depth f); split = refl; left = subst (λ (l : List Stmt). RestLeft f k l vs all) (sym (append-nil done)) l }

-- of an open block
pub collect : (f : Floor) (o : Opened) (k : List Opened) (done : List Stmt) (ts : List Spelled) (all : List Item) → RestStart f (o ∷ k) done ts all → Collected f (o ∷ k) done ts all
collect f o k done ts all (statement g l e us vs ws s is d i r) = before f (o ∷ k) done us vs ts s all d i (collect f o k (done ++ (s ∷ [])) vs all r)
collect f o k done ts all (closes g l e p vs is r) = at_end f (o ∷ k) done p vs all r

-- of the body of a function
pub collect_body : (bs : List Item) (h : DefHead) (done : List Stmt) (ts : List Spelled) (all : List Item) → RestStart (floor.Def bs h) [] done ts all → Collected (floor.Def bs h) [] done ts all
collect_body bs h done ts all (statement g l e us vs ws s is d i r) = before (floor.Def bs h) [] done us vs ts s all d i (collect_body bs h (done ++ (s ∷ [])) vs all r)
collect_body bs h done ts all (closes g l e p vs is r) = at_end (floor.Def bs h) [] done p vs all r

-- ---- and back

unroll_at : (f : Floor) (o : Opened) (k : List Opened) (n : ℕ) → length (o ∷ k) + floor_depth f ≡ n → (done : List Stmt) (us vs : List Spelled) (ss : List Stmt) (all : List Item)
    → AnyStmts (is_def f) n us ss → RestStart f (o ∷ k) (done ++ ss) vs all → RestStart f (o ∷ k) done (us ++ vs) all
unroll_at f o k n e done us vs ss all (nothing d) r = subst (λ (l : List Stmt). RestStart f (o ∷ k) l vs all) (append-nil done) r
unroll_at f o k n e done us vs ss all (more d ts ws s rs h a) r =
    statement f (o ∷ k) done ts (ws ++ vs) ((ts ++ ws) ++ vs) s all (subst (λ (m : ℕ). DerivesStmt (is_def f) m ts s) (sym e) h) (append_assoc ts ws vs)
    (unroll_at f o k n e (done ++ (s ∷ [])) ws vs rs all a (subst (λ (l : List Stmt). RestStart f (o ∷ k) l vs all) (sym (append_assoc done (s ∷ []) rs)) r))

pub unroll : (f : Floor) (o : Opened) (k : List Opened) (done : List Stmt) (us vs : List Spelled) (ss : List Stmt) (all : List Item)
    → AnyStmts (is_def f) (length (o ∷ k) + floor_depth f) us ss → RestStart f (o ∷ k) (done ++ ss) vs all → RestStart f (o ∷ k) done (us ++ vs) all
unroll f o k done us vs ss all a r = unroll_at f o k (length (o ∷ k) + floor_depth f) refl done us vs ss all a r

pub unroll_body : (bs : List Item) (h : DefHead) (done : List Stmt) (us vs : List Spelled) (ss : List Stmt) (all : List Item)
    → AnyStmts true 1 us ss → RestStart (floor.Def bs h) [] (done ++ ss) vs all → RestStart (floor.Def bs h) [] done (us ++ vs) all
unroll_body bs h done us vs ss all (nothing d) r = subst (λ (l : List Stmt). RestStart (floor.Def bs h) [] l vs all) (append-nil done) r
unroll_body bs h done us vs ss all (more d ts ws s rs i a) r =
    statement (floor.Def bs h) [] done ts (ws ++ vs) ((ts ++ ws) ++ vs) s all i (append_assoc ts ws vs)
    (unroll_body bs h (done ++ (s ∷ [])) ws vs rs all a (subst (λ (l : List Stmt). RestStart (floor.Def bs h) [] l vs all) (sym (append_assoc done (s ∷ []) rs)) r))
