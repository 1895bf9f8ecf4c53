-- Computed: the types that items write, as the code collects them.
use Rattle.std.specs.Prelude.{◌+◌, List, [], ◌∷◌, ◌++◌, Option, Some, None, slice_get}
use Rattle.mono_syntax.specs.declared.cast.NamedType.{NamedType}
use Rattle.mono_syntax.specs.declared.tree.Item.{Item}
use Rattle.mono_syntax.specs.declared.tree.Item.TheVariants as item
use Rattle.mono_syntax.specs.Stmt.{Stmt}
use Rattle.script_rules.specs.SourceParts.{body_parts, stmt_parts}
use Rattle.known_names.specs.declared.known.Known.{Known}
use Rattle.known_names.specs.declared.known.KnownClass.{KnownClass}
use Rattle.written_types.specs.declared.items.Collected.{Collected}
use Rattle.written_types.specs.computed.TypesOnto.{types_onto}

abbrev pub class_onto : Collected → Option KnownClass → Collected
class_onto done None = done
class_onto done (Some k) = record { types = done.types ++ k.ty ∷ []; classes = done.classes + 1; functions = done.functions }

abbrev pub function_onto : Collected → Option NamedType → Collected
function_onto done None = done
function_onto done (Some k) = record { types = done.types ++ k.ty ∷ []; classes = done.classes; functions = done.functions + 1 }

-- the types of a function's body, behind its own
abbrev pub body_onto : List NamedType → Collected → List Stmt → Collected
body_onto cs done ss = record { types = types_onto cs done.types (body_parts ss); classes = done.classes; functions = done.functions }

abbrev pub line_onto : List NamedType → Collected → Stmt → Collected
line_onto cs done s = record { types = types_onto cs done.types (stmt_parts s); classes = done.classes; functions = done.functions }

abbrev pub item_onto : Known → Collected → Item → Collected
item_onto ks done (item.Class d) = class_onto done (slice_get ks.classes done.classes)
item_onto ks done (item.Def d) = body_onto ks.annotations (function_onto done (slice_get ks.functions done.functions)) d.body
item_onto ks done (item.Stmt s) = line_onto ks.annotations done s

-- what is collected of these items, behind what is done
abbrev pub items_onto : Known → Collected → List Item → Collected
items_onto ks done [] = done
items_onto ks done (i ∷ is) = items_onto ks (item_onto ks done i) is

abbrev pub nothing : Collected
nothing = record { types = []; classes = 0; functions = 0 }
