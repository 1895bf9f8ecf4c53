-- What a stage of the reading still wants, in the grammar's words: the tokens from there to the end of the script, and the script's items.
use Rattle.std.proofs.Common.{◌≡◌, ◌⊎◌, ℕ, suc, ◌+◌, ◌≤◌, ◌<◌, List, [], ◌∷◌, ◌++◌, length, Some, None}
use Rattle.mono_syntax.specs.declared.leaf.Place.{Place}
use Rattle.mono_syntax.specs.declared.leaf.Word.{Word}
use Rattle.mono_syntax.specs.declared.tree.Branch.{Branch}
use Rattle.mono_syntax.specs.declared.tree.ClassDef.{ClassDef}
use Rattle.mono_syntax.specs.declared.tree.FuncDef.{FuncDef}
use Rattle.mono_syntax.specs.declared.tree.Item.{Item}
use Rattle.mono_syntax.specs.declared.tree.Item.TheVariants as item
use Rattle.mono_syntax.specs.Ann.{Ann}
use Rattle.mono_syntax.specs.Expr as expr
use Rattle.mono_syntax.specs.Expr.{Expr}
use Rattle.mono_syntax.specs.ExprView.{exprs}
use Rattle.mono_syntax.specs.Stmt as stmt
use Rattle.mono_syntax.specs.Stmt.{Stmt}
use Rattle.mono_syntax.specs.StmtView.{block, branches}
use Rattle.spelled_tokens.specs.declared.token.Mark.TheVariants as mark
use Rattle.spelled_tokens.specs.declared.token.Spelled.{Spelled}
use Rattle.spelled_tokens.specs.declared.token.What.{What}
use Rattle.spelled_tokens.specs.declared.token.What.TheVariants as what
use Rattle.spelled_tokens.specs.SpelledTokens.{tok, sign}
use Rattle.parse_expr.specs.declared.machine.Mode.{Mode}
use Rattle.parse_expr.specs.declared.machine.Mode.TheVariants as mode
use Rattle.parse_expr.specs.declared.machine.TypeMode.{TypeMode}
use Rattle.parse_expr.specs.declared.machine.TypeMode.TheVariants as type_mode
use Rattle.parse_expr.specs.computed.Goes.{Goes}
use Rattle.parse_expr.specs.Grammar.{DerivesArgs}
use Rattle.parse_expr.specs.computed.Reading.{step, finish, held}
use Rattle.parse_expr.specs.computed.TypeReading.{type_step}
use Rattle.parse_expr.specs.Types.{word}
use Rattle.parse_script.specs.declared.stage.Around.{Around}
use Rattle.parse_script.specs.declared.stage.ClassStage.{ClassStage}
use Rattle.parse_script.specs.declared.stage.ClassStage.TheVariants as class_stage
use Rattle.parse_script.specs.declared.stage.DefHead.{DefHead}
use Rattle.parse_script.specs.declared.stage.DefStage.{DefStage}
use Rattle.parse_script.specs.declared.stage.DefStage.TheVariants as def_stage
use Rattle.parse_script.specs.declared.stage.Floor.{Floor}
use Rattle.parse_script.specs.declared.stage.Floor.TheVariants as floor
use Rattle.parse_script.specs.declared.stage.Head.{Head}
use Rattle.parse_script.specs.declared.stage.Head.TheVariants as head
use Rattle.parse_script.specs.declared.stage.Listed.{Listed}
use Rattle.parse_script.specs.declared.stage.Listed.TheVariants as listed
use Rattle.parse_script.specs.declared.stage.Opened.{Opened}
use Rattle.parse_script.specs.declared.stage.Opened.TheVariants as opened
use Rattle.parse_script.specs.declared.stage.Stage.{Stage}
use Rattle.parse_script.specs.declared.stage.Stage.TheVariants as stage
use Rattle.parse_script.specs.declared.stage.Use.{Use}
use Rattle.parse_script.specs.declared.stage.Use.TheVariants as for_
use Rattle.parse_script.specs.computed.ClassReading.{class_step}
use Rattle.parse_script.specs.computed.DefReading.{def_step}
use Rattle.parse_script.specs.Definitions.{DerivesClass, DerivesDef}
use Rattle.parse_script.specs.computed.Reading.{around, top, is_def, floor_depth, added_to, added, entered, func_def}
use Rattle.mono_syntax.specs.Limits.{greatest_weight}
use Rattle.parse_script.specs.Statements.{branch, DerivesStmt, DerivesTail}

mutual
  -- where a statement may begin
  pub data RestStart : Floor → List Opened → List Stmt → List Spelled → List Item → Type 0 where
    statement : (f : Floor) (k : List Opened) (done : List Stmt) (us vs ts : List Spelled) (s : Stmt) (all : List Item)
        → DerivesStmt (is_def f) (length k + floor_depth f) us s → ts ≡ us ++ vs
        → RestStart (added_to f k done s).floor (added_to f k done s).opened (added_to f k done s).done vs all
        → RestStart f k done ts all
    closes : (f : Floor) (k : List Opened) (done : List Stmt) (p : Place) (vs : List Spelled) (all : List Item) → RestLeft f k done vs all
        → RestStart f k done (sign mark.Dedent p ∷ vs) all
    ends : (before : List Item) (done : List Stmt) (p : Place) → RestStart (floor.Script before) [] done (sign mark.End p ∷ []) before
    class : (before : List Item) (done : List Stmt) (us vs ts : List Spelled) (c : ClassDef) (all : List Item) → DerivesClass us c → ts ≡ us ++ vs
        → RestStart (floor.Script (before ++ (item.Class c ∷ []))) [] [] vs all → RestStart (floor.Script before) [] done ts all
    def : (before : List Item) (done : List Stmt) (us vs ts : List Spelled) (d : FuncDef) (all : List Item) → DerivesDef us d → ts ≡ us ++ vs
        → RestStart (floor.Script (before ++ (item.Def d ∷ []))) [] [] vs all → RestStart (floor.Script before) [] done ts all

  -- behind the DEDENT of a block with these statements
  pub data RestLeft : Floor → List Opened → List Stmt → List Spelled → List Item → Type 0 where
    while_left : (f : Floor) (k : List Opened) (before : List Stmt) (e : Expr) (s : Stmt) (ss : List Stmt) (vs : List Spelled) (all : List Item)
        → RestStart (added_to f k before (stmt.loop e (block (s ∷ ss)))).floor (added_to f k before (stmt.loop e (block (s ∷ ss)))).opened
        (added_to f k before (stmt.loop e (block (s ∷ ss)))).done vs all
        → RestLeft f (opened.While before e ∷ k) (s ∷ ss) vs all
    branch_left : (f : Floor) (k : List Opened) (before : List Stmt) (bs : List Branch) (e : Expr) (s : Stmt) (ss : List Stmt) (vs : List Spelled) (all : List Item)
        → RestBehind f k before (bs ++ (branch e (s ∷ ss) ∷ [])) vs all → RestLeft f (opened.Branch before bs e ∷ k) (s ∷ ss) vs all
    else_left : (f : Floor) (k : List Opened) (before : List Stmt) (bs : List Branch) (s : Stmt) (ss : List Stmt) (vs : List Spelled) (all : List Item)
        → RestStart (added_to f k before (stmt.if_any (branches bs) (stmt.otherwise (block (s ∷ ss))))).floor
        (added_to f k before (stmt.if_any (branches bs) (stmt.otherwise (block (s ∷ ss))))).opened
        (added_to f k before (stmt.if_any (branches bs) (stmt.otherwise (block (s ∷ ss))))).done vs all
        → RestLeft f (opened.Else before bs ∷ k) (s ∷ ss) vs all
    def_left : (before : List Item) (h : DefHead) (s : Stmt) (ss : List Stmt) (vs : List Spelled) (all : List Item)
        → RestStart (floor.Script (before ++ (item.Def (func_def h (s ∷ ss)) ∷ []))) [] [] vs all → RestLeft (floor.Def before h) [] (s ∷ ss) vs all

  -- behind the block of an `if` or `elif`
  pub data RestBehind : Floor → List Opened → List Stmt → List Branch → List Spelled → List Item → Type 0 where
    behind : (f : Floor) (k : List Opened) (done : List Stmt) (bs cs : List Branch) (el : stmt.Else) (us vs ts : List Spelled) (all : List Item)
        → DerivesTail (is_def f) (length k + floor_depth f) us cs el → ts ≡ us ++ vs
        → RestStart (added_to f k done (stmt.if_any (branches (bs ++ cs)) el)).floor (added_to f k done (stmt.if_any (branches (bs ++ cs)) el)).opened
        (added_to f k done (stmt.if_any (branches (bs ++ cs)) el)).done vs all
        → RestBehind f k done bs ts all

abbrev pub RestAt : Around → List Spelled → List Item → Type 0
RestAt a ts all = RestStart a.floor a.opened a.done ts all

-- this token comes first, and then these tokens
pub record Next (w : What) (P : Place → List Spelled → Type 0) (ts : List Spelled) : Type 0 where
  pub place : Place
  pub more : List Spelled
  pub split : ts ≡ tok w place ∷ more
  pub rest : P place more

-- a name comes first
pub record NextName (P : Word → List Spelled → Type 0) (ts : List Spelled) : Type 0 where
  pub name : List ℕ
  pub place : Place
  pub more : List Spelled
  pub split : ts ≡ tok (what.Name name) place ∷ more
  pub rest : P (word name place) more

-- the reading of an expression goes on over these tokens, and gives this one
abbrev pub Ends : Mode → List Spelled → Expr → Type 0
Ends m us e = (n : Mode) × Goes (step greatest_weight) m us n × (finish n ≡ Some e)

-- an expression is read to its end, and then come these tokens
pub record NextExpr (m : Mode) (P : Expr → List Spelled → Type 0) (ts : List Spelled) : Type 0 where
  pub part : List Spelled
  pub more : List Spelled
  pub tree : Expr
  pub ends : Ends m part tree
  pub split : ts ≡ part ++ more
  pub rest : P tree more

-- a type is read to its end, and then come these tokens
pub record NextType (m : TypeMode) (P : Ann → List Spelled → Type 0) (ts : List Spelled) : Type 0 where
  pub part : List Spelled
  pub more : List Spelled
  pub tree : Ann
  pub weight : ℕ
  pub goes : Goes (type_step greatest_weight) m part (type_mode.Have [] tree weight)
  pub split : ts ≡ part ++ more
  pub rest : P tree more

abbrev pub RestLine : Around → Stmt → List Spelled → List Item → Type 0
RestLine a s ts all = Next (what.Mark mark.Newline) (λ p us. RestAt (added a s) us all) ts

abbrev pub RestBlock : Around → Head → List Spelled → List Item → Type 0
RestBlock a h ts all = Next (what.Mark mark.Indent) (λ p us. RestAt (entered a h) us all) ts

abbrev pub RestHead : Around → Head → List Spelled → List Item → Type 0
RestHead a h ts all = Next (what.Mark mark.Newline) (λ p us. RestBlock a h us all) ts

abbrev pub RestColon : Around → Head → List Spelled → List Item → Type 0
RestColon a h ts all = Next (what.Mark mark.Colon) (λ p us. RestHead a h us all) ts

abbrev pub RestUse : Around → Use → Expr → List Spelled → List Item → Type 0
RestUse a (for_.Assign x t) e ts all = RestLine a (stmt.assign x t e) ts all
RestUse a (for_.Write o x) e ts all = RestLine a (stmt.write o x e) ts all
RestUse a (for_.Return p) e ts all = RestLine a (stmt.give p (Some e)) ts all
RestUse a for_.While e ts all = RestColon a (head.While e) ts all
RestUse a (for_.Branch bs) e ts all = RestColon a (head.Branch bs e) ts all

abbrev pub RestInside : Around → Use → Mode → List Spelled → List Item → Type 0
RestInside a u m ts all = NextExpr m (λ e us. RestUse a u e us all) ts

-- ---- arguments

abbrev pub RestListed : Around → Listed → List Expr → List Spelled → List Item → Type 0
RestListed a (listed.Print p) es ts all = RestLine a (stmt.print p (exprs es)) ts all
RestListed a (listed.Start x p) (e ∷ es) ts all = RestLine a (stmt.start x p e (exprs es)) ts all
RestListed a (listed.Start x p) [] ts all = ⊥

-- arguments, `)` and what is behind
pub record RestListing (a : Around) (l : Listed) (es : List Expr) (ts : List Spelled) (all : List Item) : Type 0 where
  pub part : List Spelled
  pub weight : ℕ
  pub args : List Expr
  pub place : Place
  pub more : List Spelled
  pub derives : DerivesArgs part weight args
  pub light : weight ≤ greatest_weight
  pub split : ts ≡ part ++ (tok what.Close place ∷ more)
  pub rest : RestListed a l (es ++ args) more all

abbrev pub RestArgument : Around → Listed → List Expr → List Spelled → List Item → Type 0
RestArgument a l es ts all = Next what.Comma (λ p us. RestListing a l es us all) ts ⊎ Next what.Close (λ p us. RestListed a l es us all) ts

-- ---- statements that an expression begins

abbrev pub RestValue : Around → Expr → Word → List Spelled → List Item → Type 0
RestValue a o x ts all = Next (what.Mark mark.Equals) (λ p us. RestInside a (for_.Write o x) (mode.Want []) us all) ts

-- the reading goes on to a receiver, and then come `.`, a name, `=` and a value
pub record RestTarget (a : Around) (m : Mode) (ts : List Spelled) (all : List Item) : Type 0 where
  pub part : List Spelled
  pub more : List Spelled
  pub tree : Expr
  pub weight : ℕ
  pub goes : Goes (step greatest_weight) m part (mode.Have (held [] tree weight))
  pub light : weight ≤ greatest_weight
  pub split : ts ≡ part ++ more
  pub rest : Next what.Dot (λ p us. NextName (λ x vs. RestValue a tree x vs all) us) more

abbrev pub RestPlain : Around → Mode → List Spelled → List Item → Type 0
RestPlain a m ts all = NextExpr m (λ e us. RestLine a (stmt.plain e) us all) ts ⊎ RestTarget a m ts all

abbrev pub RestAttribute : Around → Expr → ℕ → Word → List Spelled → List Item → Type 0
RestAttribute a o w x ts all = RestValue a o x ts all ⊎ ((w < greatest_weight) × RestPlain a (mode.Have (held [] (expr.read o x) (suc w))) ts all)

abbrev pub RestStarted : Around → Word → List Spelled → List Item → Type 0
RestStarted a x ts all = Next what.Open (λ p us. RestListing a (listed.Start x p) [] us all) ts

abbrev pub RestAssigning : Around → Word → List Spelled → List Item → Type 0
RestAssigning a x ts all = RestInside a (for_.Assign x None) (mode.Want []) ts all ⊎ Next (what.Mark mark.Start) (λ p us. RestStarted a x us all) ts

abbrev pub RestTyped : Around → Word → TypeMode → List Spelled → List Item → Type 0
RestTyped a x m ts all = NextType m (λ t us. Next (what.Mark mark.Equals) (λ p vs. RestInside a (for_.Assign x (Some t)) (mode.Want []) vs all) us) ts

abbrev pub RestNamed : Around → Word → List Spelled → List Item → Type 0
RestNamed a x ts all =
    Next (what.Mark mark.Equals) (λ p us. RestAssigning a x us all) ts ⊎ (Next (what.Mark mark.Colon) (λ p us. RestTyped a x (type_mode.Want []) us all) ts
    ⊎ RestPlain a (mode.Have (held [] (expr.local x) 1)) ts all)

-- ---- classes and functions

pub record RestClass (before : List Item) (m : ClassStage) (ts : List Spelled) (all : List Item) : Type 0 where
  pub part : List Spelled
  pub more : List Spelled
  pub tree : ClassDef
  pub goes : Goes class_step m part (class_stage.Done tree)
  pub split : ts ≡ part ++ more
  pub rest : RestAt (top (before ++ (item.Class tree ∷ []))) more all

pub record RestDef (before : List Item) (m : DefStage) (ts : List Spelled) (all : List Item) : Type 0 where
  pub part : List Spelled
  pub more : List Spelled
  pub tree : DefHead
  pub goes : Goes def_step m part (def_stage.Done tree)
  pub split : ts ≡ part ++ more
  pub rest : RestAt (around (floor.Def before tree) [] []) more all

-- ---- all stages

abbrev pub Rest : Stage → List Spelled → List Item → Type 0
Rest (stage.Start a) ts all = RestAt a ts all
Rest (stage.Behind a bs) ts all = RestBehind a.floor a.opened a.done bs ts all
Rest (stage.Line a) ts all = Next (what.Mark mark.Newline) (λ p us. RestAt a us all) ts
Rest (stage.Named a x) ts all = RestNamed a x ts all
Rest (stage.Plain a m) ts all = RestPlain a m ts all
Rest (stage.Dotted a o w) ts all = NextName (λ x us. RestAttribute a o w x us all) ts
Rest (stage.Target a o w x) ts all = RestAttribute a o w x ts all
Rest (stage.Typed a x m) ts all = RestTyped a x m ts all
Rest (stage.Assigning a x) ts all = RestAssigning a x ts all
Rest (stage.Returning a p) ts all = RestLine a (stmt.give p None) ts all ⊎ RestInside a (for_.Return p) (mode.Want []) ts all
Rest (stage.Inside a u m) ts all = RestInside a u m ts all
Rest (stage.PrintWord a) ts all = Next what.Open (λ p us. RestListing a (listed.Print p) [] us all) ts
Rest (stage.StartWord a x) ts all = RestStarted a x ts all
Rest (stage.Listing a l es) ts all = RestListing a l es ts all
Rest (stage.Argument a l es m) ts all = NextExpr m (λ e us. RestArgument a l (es ++ (e ∷ [])) us all) ts
Rest (stage.HeadColon a h) ts all = RestColon a h ts all
Rest (stage.HeadLine a h) ts all = RestHead a h ts all
Rest (stage.HeadBlock a h) ts all = RestBlock a h ts all
Rest (stage.Class before m) ts all = RestClass before m ts all
Rest (stage.Def before m) ts all = RestDef before m ts all
Rest (stage.Ended before) ts all = (ts ≡ []) × (all ≡ before)
