-- Tables that get a statement, a body or a list of branches.
use Rattle.std.proofs.Common.{◌≡◌, ℕ, List, [], ◌∷◌, ◌++◌, length, refl, sym, subst}
use Rattle.std.specs.Prelude.{Some, Result, Ok, Err, IfOk}
use Rattle.mono_syntax.specs.declared.cast.CastBranch.{CastBranch}
use Rattle.mono_syntax.specs.CastStmt.{CastStmt}
use Rattle.node_code.specs.NodeMeaning.{Trees, IsBranch, NodeIs, StmtIs, BodyIs, IsMeant}
use Rattle.node_code.specs.Numbering.{Grows, Gives, GivesExpr, GivesStmt, GivesStmts, GivesBody, GivesBranches, ListsBranches}
use Rattle.node_code.specs.Places.{At, Keeps, Each}
use Rattle.node_code.specs.declared.data.BranchNode.{BranchNode}
use Rattle.node_code.specs.declared.data.Slots.{Slots}
use Rattle.node_code.specs.declared.data.StmtNode.{StmtNode}
use Rattle.node_code.specs.declared.data.Tables.{Tables}
use Rattle.node_code.specs.declared.put.Body.{Body}
use Rattle.node_code.specs.declared.put.Branches.{Branches}
use Rattle.node_code.specs.declared.put.Numbered.{Numbered}
use Rattle.node_code.proofs.Growing.{body_kept, branches_kept, grows_on, meant_kept, node_kept, stmt_kept}
use Rattle.node_code.proofs.PlaceLaws.{each_length, each_more, each_so, get_new, keeps_more}

-- ---- a statement

abbrev pub with_stmts : Tables → List StmtNode → Tables
with_stmts t ds = record t { code = record t.code { stmts = ds } }

pub put_stmt : (s : Slots) (a t : Tables) (m : Trees) (d : StmtNode) (e : CastStmt) → Gives s a m t (λ x. StmtIs s t x d e)
    → Gives s a m (with_stmts t ((t.code).stmts ++ d ∷ [])) (λ x. At x.stmts (length (t.code).stmts) e)
put_stmt s a t m d e h =
    let old = h.trees in
    let new : Trees = record old { stmts = old.stmts ++ e ∷ [] } in
    let b : Tables = with_stmts t ((t.code).stmts ++ d ∷ []) in
    let g : Grows t old b new = record {
      texts = λ n x i. i;
      table = refl;
      lists = λ n x i. i;
      branches = λ n x i. i;
      exprs = λ n x i. i;
      stmts = keeps_more old.stmts e;
      bodies = λ n x i. i;
    } in
    record {
      trees = new;
      grows = grows_on h.grows g;
      meant = record {
        exprs = each_so (NodeIs s t old) (NodeIs s b new) (node_kept s t b old new g) (t.code).nodes old.exprs (h.meant).exprs;
        stmts = each_more (StmtIs s b new) (t.code).stmts old.stmts d e
            (each_so (StmtIs s t old) (StmtIs s b new) (stmt_kept s t b old new g) (t.code).stmts old.stmts (h.meant).stmts)
            (stmt_kept s t b old new g d e h.here);
        bodies = each_so (BodyIs old) (BodyIs new) (body_kept s t b old new g) (t.code).bodies old.bodies (h.meant).bodies;
      };
      here = subst (λ (k : ℕ). At new.stmts k e) (sym (each_length (StmtIs s t old) (t.code).stmts old.stmts (h.meant).stmts))
          (get_new old.stmts e);
    }

-- ---- a body

abbrev pub with_bodies : Tables → List (List ℕ) → Tables
with_bodies t bs = record t { code = record t.code { bodies = bs } }

pub put_body : (s : Slots) (a t : Tables) (m : Trees) (ns : List ℕ) (e : List CastStmt) → Gives s a m t (λ x. BodyIs x ns e)
    → Gives s a m (with_bodies t ((t.code).bodies ++ ns ∷ [])) (λ x. At x.bodies (length (t.code).bodies) e)
put_body s a t m ns e h =
    let old = h.trees in
    let new : Trees = record old { bodies = old.bodies ++ e ∷ [] } in
    let b : Tables = with_bodies t ((t.code).bodies ++ ns ∷ []) in
    let g : Grows t old b new = record {
      texts = λ n x i. i;
      table = refl;
      lists = λ n x i. i;
      branches = λ n x i. i;
      exprs = λ n x i. i;
      stmts = λ n x i. i;
      bodies = keeps_more old.bodies e;
    } in
    record {
      trees = new;
      grows = grows_on h.grows g;
      meant = record {
        exprs = each_so (NodeIs s t old) (NodeIs s b new) (node_kept s t b old new g) (t.code).nodes old.exprs (h.meant).exprs;
        stmts = each_so (StmtIs s t old) (StmtIs s b new) (stmt_kept s t b old new g) (t.code).stmts old.stmts (h.meant).stmts;
        bodies = each_more (BodyIs new) (t.code).bodies old.bodies ns e
            (each_so (BodyIs old) (BodyIs new) (body_kept s t b old new g) (t.code).bodies old.bodies (h.meant).bodies)
            (body_kept s t b old new g ns e h.here);
      };
      here = subst (λ (k : ℕ). At new.bodies k e) (sym (each_length (BodyIs old) (t.code).bodies old.bodies (h.meant).bodies))
          (get_new old.bodies e);
    }

-- ---- a list of branches

abbrev pub with_branches : Tables → List (List BranchNode) → Tables
with_branches t ls = record t { code = record t.code { branches = ls } }

pub put_branches : (s : Slots) (a t : Tables) (m : Trees) (ns : List BranchNode) (bs : List CastBranch)
    → Gives s a m t (λ x. Each (IsBranch x) ns bs)
    → ListsBranches s a m bs (record { at = length (t.code).branches; tables = with_branches t ((t.code).branches ++ ns ∷ []) })
put_branches s a t m ns bs h =
    let b : Tables = with_branches t ((t.code).branches ++ ns ∷ []) in
    let g : Grows t h.trees b h.trees = record {
      texts = λ n x i. i;
      table = refl;
      lists = λ n x i. i;
      branches = keeps_more (t.code).branches ns;
      exprs = λ n x i. i;
      stmts = λ n x i. i;
      bodies = λ n x i. i;
    } in
    record {
      trees = h.trees;
      grows = grows_on h.grows g;
      meant = meant_kept s t b h.trees h.trees g refl refl refl refl h.meant;
      here = (ns, get_new (t.code).branches ns, h.here);
    }

-- ---- one behind the others

pub stmts_more : (s : Slots) (a t : Tables) (m : Trees) (ns : List ℕ) (es : List CastStmt) (e : CastStmt) (r : Numbered)
    → (f : GivesStmts s a m es (record { stmts = ns; tables = t })) → GivesStmt s t f.trees e r
    → GivesStmts s a m (es ++ e ∷ []) (record { stmts = ns ++ r.at ∷ []; tables = r.tables })
stmts_more s a t m ns es e r f g = record {
  trees = g.trees;
  grows = grows_on f.grows g.grows;
  meant = g.meant;
  here = each_more (λ k x. At (g.trees).stmts k x) ns es r.at e (body_kept s t r.tables f.trees g.trees g.grows ns es f.here) g.here;
}

pub branches_more : (s : Slots) (a t : Tables) (m : Trees) (ns : List BranchNode) (bs : List CastBranch) (x : CastBranch) (c b : Numbered)
    → (f : GivesBranches s a m bs (record { branches = ns; tables = t })) → (g : GivesExpr s t f.trees x.condition c)
    → GivesBody s c.tables g.trees x.body b
    → GivesBranches s a m (bs ++ x ∷ []) (record { branches = ns ++ record { condition = c.at; body = b.at } ∷ []; tables = b.tables })
branches_more s a t m ns bs x c b f g h =
    let both = grows_on g.grows h.grows in
    record {
      trees = h.trees;
      grows = grows_on f.grows both;
      meant = h.meant;
      here = each_more (IsBranch h.trees) ns bs (record { condition = c.at; body = b.at }) x
          (branches_kept s t b.tables f.trees h.trees both ns bs f.here)
          ((h.grows).exprs c.at x.condition g.here, h.here);
    }
