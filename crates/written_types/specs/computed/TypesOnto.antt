-- Computed: the types of the annotations among the parts of a construct, as the code collects them.
use Rattle.std.specs.Prelude.{List, [], ◌∷◌, ◌++◌}
use Rattle.mono_syntax.specs.declared.cast.NamedType.{NamedType}
use Rattle.mono_syntax.specs.Ann.{Ann}
use Rattle.mono_syntax.specs.Ty.{Ty}
use Rattle.script_rules.specs.SourceParts.{Part, annotation, arguments}
use Rattle.known_names.specs.computed.Annotations.{written}
use Rattle.known_names.specs.computed.TypeTests.{type_or_dyn}

-- the type that the annotation writes, and `Dyn` where it writes none
abbrev pub type_of : List NamedType → Ann → Ty
type_of cs a = type_or_dyn (written cs a)

abbrev pub type_onto : List NamedType → List Ty → Part → List Ty
type_onto cs done (annotation a) = done ++ type_of cs a ∷ []
type_onto cs done (arguments c) = done

-- the types of the annotations among these parts, behind those that are done
abbrev pub types_onto : List NamedType → List Ty → List Part → List Ty
types_onto cs done [] = done
types_onto cs done (p ∷ ps) = types_onto cs (type_onto cs done p) ps
