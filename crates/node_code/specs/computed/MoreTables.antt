-- Computed: what one call adds to the tables.
use Rattle.std.specs.Prelude.{◌≡◌, ℕ, List, [], ◌∷◌, ◌++◌, length}
use Rattle.node_code.specs.Places.{At, Keeps}
use Rattle.node_code.specs.declared.data.Code.{Code}
use Rattle.node_code.specs.declared.data.Tables.{Tables}
use Rattle.node_code.specs.declared.put.Many.{Many}
use Rattle.node_code.specs.declared.put.Numbered.{Numbered}

-- the list of arguments stands behind the others
abbrev pub IsListed : Many → Numbered → Type 0
IsListed m r = r ≡ record {
  at = length ((m.tables).code).lists;
  tables = record m.tables { code = record (m.tables).code { lists = ((m.tables).code).lists ++ m.nodes ∷ [] } };
}

-- the text has this number, and all else is as before
pub record HasText (a : Tables) (x : List ℕ) (r : Numbered) : Type 0 where
  pub at : At (r.tables).texts r.at x
  pub keeps : Keeps a.texts (r.tables).texts
  pub table : (r.tables).table ≡ a.table
  pub code : (r.tables).code ≡ a.code

-- no code
abbrev pub no_code : Code
no_code = record { nodes = []; lists = []; stmts = []; bodies = []; branches = [] }
