-- Tables that grow: each node stands for its tree still.
use Rattle.std.proofs.Common.{◌≡◌, ◌∙◌, ℕ, List, [], ◌∷◌, ◌++◌, length, refl, sym, ap, subst, ◌⊎◌, inl, inr}
use Rattle.std.specs.Prelude.{Option, Some, None, Result, Ok, Err, IfOk}
use Rattle.mono_syntax.specs.declared.cast.Arg.{Arg}
use Rattle.mono_syntax.specs.declared.cast.CastBranch.{CastBranch}
use Rattle.mono_syntax.specs.CastExpr.{CastExpr}
use Rattle.mono_syntax.specs.CastStmt.{CastStmt}
use Rattle.node_code.specs.NodeMeaning.{Trees, IsArg, IsValue, IsBranch, IsElse, NodeIs, StmtIs, BodyIs, IsMeant}
use Rattle.mono_tree.specs.TypeNumbers.{Names}
use Rattle.type_numbers.specs.Tables.{Table}
use Rattle.node_code.specs.Numbering.{Grows, Gives, GivesExpr, GivesValues, GivesArgs, ListsValues, ListsArgs}
use Rattle.node_code.specs.Texts.{IsText}
use Rattle.node_code.specs.computed.MoreTables.{IsListed, HasText}
use Rattle.node_code.specs.Places.{At, Keeps, Each}
use Rattle.node_code.specs.declared.data.ArgNode.{ArgNode}
use Rattle.node_code.specs.declared.data.BranchNode.{BranchNode}
use Rattle.node_code.specs.declared.data.Code.{Code}
use Rattle.node_code.specs.declared.data.Node.{Node}
use Rattle.node_code.specs.declared.data.Node.TheVariants as node
use Rattle.node_code.specs.declared.data.Slots.{Slots}
use Rattle.node_code.specs.declared.data.StmtNode.{StmtNode}
use Rattle.node_code.specs.declared.data.StmtNode.TheVariants as stmt_node
use Rattle.node_code.specs.declared.data.Tables.{Tables}
use Rattle.node_code.specs.declared.put.Many.{Many}
use Rattle.node_code.specs.declared.put.Numbered.{Numbered}
use Rattle.node_code.specs.declared.texts.TextAt.{TextAt}
use Rattle.node_code.proofs.PlaceLaws.{each_length, each_more, each_so, get_new, keeps_more}

-- ---- what is kept

pub grows_same : (a : Tables) (m : Trees) → Grows a m a m
grows_same a m = record {
  texts = λ n x e. e;
  table = refl;
  lists = λ n x e. e;
  branches = λ n x e. e;
  exprs = λ n x e. e;
  stmts = λ n x e. e;
  bodies = λ n x e. e;
}

pub grows_on : {a b c : Tables} {m n o : Trees} → Grows a m b n → Grows b n c o → Grows a m c o
grows_on f g = record {
  texts = λ i x e. g.texts i x (f.texts i x e);
  table = f.table ∙ g.table;
  lists = λ i x e. g.lists i x (f.lists i x e);
  branches = λ i x e. g.branches i x (f.branches i x e);
  exprs = λ i x e. g.exprs i x (f.exprs i x e);
  stmts = λ i x e. g.stmts i x (f.stmts i x e);
  bodies = λ i x e. g.bodies i x (f.bodies i x e);
}

module _ (s : Slots) (a b : Tables) (m n : Trees) (g : Grows a m b n) where
  pub args_kept : (ns : List ArgNode) (given : List Arg) → Each (IsArg m) ns given → Each (IsArg n) ns given
  args_kept = each_so (IsArg m) (IsArg n) (λ x y h. (h.0, g.exprs x.node y.value h.1))

  pub values_kept : (ns : List ArgNode) (given : List CastExpr) → Each (IsValue m) ns given → Each (IsValue n) ns given
  values_kept = each_so (IsValue m) (IsValue n) (λ x y h. (h.0, g.exprs x.node y h.1))

  pub branches_kept : (ns : List BranchNode) (bs : List CastBranch) → Each (IsBranch m) ns bs → Each (IsBranch n) ns bs
  branches_kept = each_so (IsBranch m) (IsBranch n) (λ x y h. (g.exprs x.condition y.condition h.0, g.bodies x.body y.body h.1))

  pub else_kept : (k : Option ℕ) (o : Option (List CastStmt)) → IsElse m k o → IsElse n k o
  else_kept None None h = tt
  else_kept None (Some x) h = absurd h
  else_kept (Some k) None h = absurd h
  else_kept (Some k) (Some x) h = g.bodies k x h

  pub node_kept : (d : Node) (e : CastExpr) → NodeIs s a m d e → NodeIs s b n d e
  node_kept (node.Int k) e h = h
  node_kept (node.Text i) e h = (h.0, g.texts i h.0 h.1, h.2)
  node_kept (node.Bool v) e h = h
  node_kept node.Nil e h = h
  node_kept (node.Local k i) e h = h
  node_kept (node.Function f) e h = h
  node_kept (node.Neg k x) e h = (h.0, g.exprs x h.0 h.1, h.2)
  node_kept (node.Not x) e h = (h.0, g.exprs x h.0 h.1, h.2)
  node_kept (node.Binary o k l x y) e h = (h.0, h.1, g.exprs x h.0 h.2, g.exprs y h.1 h.3, h.4)
  node_kept (node.And x y) e h = (h.0, h.1, g.exprs x h.0 h.2, g.exprs y h.1 h.3, h.4)
  node_kept (node.Or x y) e h = (h.0, h.1, g.exprs x h.0 h.2, g.exprs y h.1 h.3, h.4)
  node_kept (node.Read k x i) e h = (h.0, h.1, g.exprs x h.0 h.2, g.texts i h.1 h.3, h.4)
  node_kept (node.New c l) e h = (h.0, h.1, g.lists l h.0 h.2, values_kept h.0 h.1 h.3, h.4)
  node_kept (node.Call k x l) e h = (h.0, h.1, h.2, g.exprs x h.0 h.3, g.lists l h.1 h.4, args_kept h.1 h.2 h.5, h.6)
  node_kept (node.Fit k x) e h = (h.0, g.exprs x h.0 h.1, h.2)
  node_kept (node.Join k i) e h = h

  pub stmt_kept : (d : StmtNode) (e : CastStmt) → StmtIs s a m d e → StmtIs s b n d e
  stmt_kept stmt_node.Pass e h = h
  stmt_kept (stmt_node.Return k x) e h = (h.0, g.exprs x h.0 h.1, h.2)
  stmt_kept (stmt_node.Print l) e h = (h.0, h.1, g.lists l h.0 h.2, values_kept h.0 h.1 h.3, h.4)
  stmt_kept (stmt_node.Assign i x) e h = (h.0, h.1, h.2, g.exprs x h.1 h.3, h.4)
  stmt_kept (stmt_node.Write k l y x i z) e h =
      let is = subst (λ (t : Table). Names t.types y h.0) g.table h.4 in
      (h.0, h.1, h.2, h.3, is, g.exprs x h.1 h.5, g.texts i h.2 h.6, g.exprs z h.3 h.7, h.8)
  stmt_kept (stmt_node.Start i k x l) e h = (h.0, h.1, h.2, h.3, h.4, g.exprs x h.1 h.5, g.lists l h.2 h.6, args_kept h.2 h.3 h.7, h.8)
  stmt_kept (stmt_node.Plain x) e h = (h.0, g.exprs x h.0 h.1, h.2)
  stmt_kept (stmt_node.If l last) e h = (h.0, h.1, h.2, g.branches l h.0 h.3, branches_kept h.0 h.1 h.4, else_kept last h.2 h.5, h.6)
  stmt_kept (stmt_node.While x l) e h = (h.0, h.1, g.exprs x h.0 h.2, g.bodies l h.1 h.3, h.4)

  pub body_kept : (ns : List ℕ) (ss : List CastStmt) → Each (λ k e. At m.stmts k e) ns ss → Each (λ k e. At n.stmts k e) ns ss
  body_kept = each_so (λ k e. At m.stmts k e) (λ k e. At n.stmts k e) (λ k e h. g.stmts k e h)

  -- tables with the same nodes
  pub meant_kept : (b.code).nodes ≡ (a.code).nodes → (b.code).stmts ≡ (a.code).stmts → (b.code).bodies ≡ (a.code).bodies
      → n ≡ m → IsMeant s a m → IsMeant s b n
  meant_kept p q r same ok = record {
    exprs = subst (λ (z : List Node). Each (NodeIs s b n) z n.exprs) (sym p)
        (subst (λ (z : List CastExpr). Each (NodeIs s b n) (a.code).nodes z) (sym (ap (λ (t : Trees). t.exprs) same))
        (each_so (NodeIs s a m) (NodeIs s b n) node_kept (a.code).nodes m.exprs ok.exprs));
    stmts = subst (λ (z : List StmtNode). Each (StmtIs s b n) z n.stmts) (sym q)
        (subst (λ (z : List CastStmt). Each (StmtIs s b n) (a.code).stmts z) (sym (ap (λ (t : Trees). t.stmts) same))
        (each_so (StmtIs s a m) (StmtIs s b n) stmt_kept (a.code).stmts m.stmts ok.stmts));
    bodies = subst (λ (z : List (List ℕ)). Each (BodyIs n) z n.bodies) (sym r)
        (subst (λ (z : List (List CastStmt)). Each (BodyIs n) (a.code).bodies z) (sym (ap (λ (t : Trees). t.bodies) same))
        (each_so (BodyIs m) (BodyIs n) body_kept (a.code).bodies m.bodies ok.bodies));
  }

-- ---- one more

abbrev pub with_nodes : Tables → List Node → Tables
with_nodes t ds = record t { code = record t.code { nodes = ds } }

abbrev pub with_node : Tables → Node → Tables
with_node t d = with_nodes t ((t.code).nodes ++ d ∷ [])

-- one node more, with its tree
pub put_node : (s : Slots) (a t : Tables) (m : Trees) (d : Node) (e : CastExpr) → Gives s a m t (λ x. NodeIs s t x d e)
    → Gives s a m (with_node t d) (λ x. At x.exprs (length (t.code).nodes) e)
put_node s a t m d e h =
    let old = h.trees in
    let new : Trees = record old { exprs = old.exprs ++ e ∷ [] } in
    let g : Grows t old (with_node t d) new = record {
      texts = λ n x i. i;
      table = refl;
      lists = λ n x i. i;
      branches = λ n x i. i;
      exprs = keeps_more old.exprs e;
      stmts = λ n x i. i;
      bodies = λ n x i. i;
    } in
    record {
      trees = new;
      grows = grows_on h.grows g;
      meant = record {
        exprs = each_more (NodeIs s (with_node t d) new) (t.code).nodes old.exprs d e
            (each_so (NodeIs s t old) (NodeIs s (with_node t d) new) (node_kept s t (with_node t d) old new g) (t.code).nodes old.exprs
            (h.meant).exprs)
            (node_kept s t (with_node t d) old new g d e h.here);
        stmts = each_so (StmtIs s t old) (StmtIs s (with_node t d) new) (stmt_kept s t (with_node t d) old new g) (t.code).stmts old.stmts
            (h.meant).stmts;
        bodies = each_so (BodyIs old) (BodyIs new) (body_kept s t (with_node t d) old new g) (t.code).bodies old.bodies (h.meant).bodies;
      };
      here = subst (λ (k : ℕ). At new.exprs k e) (sym (each_length (NodeIs s t old) (t.code).nodes old.exprs (h.meant).exprs))
          (get_new old.exprs e);
    }

-- ---- texts and lists

text_kept_by : (ts : List (List ℕ)) (x : List ℕ) (r : TextAt) → IsText ts x r → Keeps ts r.texts
text_kept_by ts x r h = elim h.texts [
  | inl e ↦ subst (λ (z : List (List ℕ)). Keeps ts z) (sym e) (λ n y i. i)
  | inr e ↦ subst (λ (z : List (List ℕ)). Keeps ts z) (sym e.1) (keeps_more ts x)
]

pub text_kept : (a : Tables) (x : List ℕ) (r : TextAt) → IsText a.texts x r
    → HasText a x (record { at = r.at; tables = record { texts = r.texts; table = a.table; code = a.code } })
text_kept a x r h = record { at = h.at; keeps = text_kept_by a.texts x r h; table = refl; code = refl }

-- one text more, the trees as before
pub texted : (s : Slots) (a : Tables) (m : Trees) (x : List ℕ) (r : Numbered) → IsMeant s a m → HasText a x r
    → Gives s a m r.tables (λ t. At (r.tables).texts r.at x)
texted s a m x r ok h =
    let b = r.tables in
    let g : Grows a m b m = record {
      texts = h.keeps;
      table = sym h.table;
      lists = subst (λ (z : Code). Keeps (a.code).lists z.lists) (sym h.code) (λ n y i. i);
      branches = subst (λ (z : Code). Keeps (a.code).branches z.branches) (sym h.code) (λ n y i. i);
      exprs = λ n y i. i;
      stmts = λ n y i. i;
      bodies = λ n y i. i;
    } in
    record {
      trees = m;
      grows = g;
      meant = meant_kept s a b m m g (ap (λ (z : Code). z.nodes) h.code) (ap (λ (z : Code). z.stmts) h.code)
          (ap (λ (z : Code). z.bodies) h.code) refl ok;
      here = h.at;
    }

abbrev pub with_lists : Tables → List (List ArgNode) → Tables
with_lists t ls = record t { code = record t.code { lists = ls } }

-- one list more, the trees as before
list_grows : (t : Tables) (m : Trees) (l : List ArgNode) → Grows t m (with_lists t ((t.code).lists ++ l ∷ [])) m
list_grows t m l = record {
  texts = λ n y i. i;
  table = refl;
  lists = keeps_more (t.code).lists l;
  branches = λ n y i. i;
  exprs = λ n y i. i;
  stmts = λ n y i. i;
  bodies = λ n y i. i;
}

pub values_listed : (s : Slots) (a : Tables) (m : Trees) (es : List CastExpr) (b : Many) (r : Numbered) → GivesValues s a m es b
    → IsListed b r → ListsValues s a m es r
values_listed s a m es b r h e =
    let t = b.tables in
    let g = list_grows t h.trees b.nodes in
    subst (λ (z : Numbered). ListsValues s a m es z) (sym e) (record {
      trees = h.trees;
      grows = grows_on h.grows g;
      meant = meant_kept s t (with_lists t ((t.code).lists ++ b.nodes ∷ [])) h.trees h.trees g refl refl refl refl h.meant;
      here = (b.nodes, get_new (t.code).lists b.nodes, h.here);
    })

pub args_listed : (s : Slots) (a : Tables) (m : Trees) (given : List Arg) (b : Many) (r : Numbered) → GivesArgs s a m given b
    → IsListed b r → ListsArgs s a m given r
args_listed s a m given b r h e =
    let t = b.tables in
    let g = list_grows t h.trees b.nodes in
    subst (λ (z : Numbered). ListsArgs s a m given z) (sym e) (record {
      trees = h.trees;
      grows = grows_on h.grows g;
      meant = meant_kept s t (with_lists t ((t.code).lists ++ b.nodes ∷ [])) h.trees h.trees g refl refl refl refl h.meant;
      here = (b.nodes, get_new (t.code).lists b.nodes, h.here);
    })

-- the same for answers
pub values_listed_ok : {E : Type 0} (s : Slots) (a : Tables) (m : Trees) (es : List CastExpr) (b : Many) (r : Result Numbered E)
    → GivesValues s a m es b → IfOk r (IsListed b) → IfOk r (ListsValues s a m es)
values_listed_ok s a m es b (Ok r) h e = values_listed s a m es b r h e
values_listed_ok s a m es b (Err f) h e = tt

pub args_listed_ok : {E : Type 0} (s : Slots) (a : Tables) (m : Trees) (given : List Arg) (b : Many) (r : Result Numbered E)
    → GivesArgs s a m given b → IfOk r (IsListed b) → IfOk r (ListsArgs s a m given)
args_listed_ok s a m given b (Ok r) h e = args_listed s a m given b r h e
args_listed_ok s a m given b (Err f) h e = tt

-- ---- one behind the other

pub gives_on : (s : Slots) (a b c : Tables) (m : Trees) (H K L : Trees → Type 0) (f : Gives s a m b H) (g : Gives s b f.trees c K)
    → (L g.trees) → Gives s a m c L
gives_on s a b c m H K L f g l = record { trees = g.trees; grows = grows_on f.grows g.grows; meant = g.meant; here = l }

-- one more value
pub values_more : (s : Slots) (a t : Tables) (m : Trees) (ns : List ArgNode) (es : List CastExpr) (e : CastExpr) (r : Numbered)
    → (f : GivesValues s a m es (record { nodes = ns; tables = t })) → GivesExpr s t f.trees e r
    → GivesValues s a m (es ++ e ∷ []) (record { nodes = ns ++ record { site = None; node = r.at } ∷ []; tables = r.tables })
values_more s a t m ns es e r f g = record {
  trees = g.trees;
  grows = grows_on f.grows g.grows;
  meant = g.meant;
  here = each_more (IsValue g.trees) ns es (record { site = None; node = r.at }) e
      (values_kept s t r.tables f.trees g.trees g.grows ns es f.here) (refl, g.here);
}

-- one more argument
pub args_more : (s : Slots) (a t : Tables) (m : Trees) (ns : List ArgNode) (given : List Arg) (x : Arg) (r : Numbered)
    → (f : GivesArgs s a m given (record { nodes = ns; tables = t })) → GivesExpr s t f.trees x.value r
    → GivesArgs s a m (given ++ x ∷ []) (record { nodes = ns ++ record { site = x.site; node = r.at } ∷ []; tables = r.tables })
args_more s a t m ns given x r f g = record {
  trees = g.trees;
  grows = grows_on f.grows g.grows;
  meant = g.meant;
  here = each_more (IsArg g.trees) ns given (record { site = x.site; node = r.at }) x
      (args_kept s t r.tables f.trees g.trees g.grows ns given f.here) (refl, g.here);
}

-- none yet
pub none_yet : (s : Slots) (a : Tables) (m : Trees) (H : Trees → Type 0) → IsMeant s a m → H m → Gives s a m a H
none_yet s a m H ok h = record { trees = m; grows = grows_same a m; meant = ok; here = h }
