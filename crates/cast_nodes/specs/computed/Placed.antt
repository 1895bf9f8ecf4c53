-- Computed: sites that get numbers behind those so far, and which sites a construct has.
use Rattle.std.specs.Prelude.{List, [], ◌∷◌, ◌++◌, length, Bool, true, false, Option, Some, None}
use Rattle.mono_syntax.specs.declared.leaf.Kind.{Kind}
use Rattle.mono_syntax.specs.declared.leaf.Kind.TheVariants as kind
use Rattle.mono_syntax.specs.declared.leaf.Place.{Place}
use Rattle.mono_syntax.specs.Expr as expr
use Rattle.mono_syntax.specs.Expr.{Expr}
use Rattle.mono_syntax.specs.Ty.{Ty}
use Rattle.mono_tree.specs.Precision.{precise}
use Rattle.mono_tree.specs.TypedPrograms.{type_of_name}
use Rattle.static_types.specs.Operators.{Sort, arithmetic, comparison, equality, sort_of, is_dyn_sum}
use Rattle.cast_rules.specs.declared.site.TypedSite.{TypedSite}
use Rattle.cast_rules.specs.OwnSites.{name_site}
use Rattle.cast_rules.specs.Sites.{site_from, plain_site, site_unless, tested_site, site_at_dyn}
use Rattle.known_names.specs.declared.known.Known.{Known}
use Rattle.known_names.specs.declared.known.KnownClass.{KnownClass}
use Rattle.known_names.specs.declared.known.Local.{Local}
use Rattle.rule_choice.specs.declared.parts.Part.{Part}
use Rattle.rule_choice.specs.GivenParts.{types_of}
use Rattle.rule_choice.specs.computed.Ruled.{called_class}
use Rattle.cast_nodes.specs.declared.slots.Slots.{Slots}

-- no slots behind these sites
abbrev pub no_slots : List TypedSite → Slots
no_slots ss = record { numbers = []; sites = ss }

-- one more slot, with the number of its site where one stands
abbrev pub with_slot : Slots → Option TypedSite → Slots
with_slot q None = record { numbers = q.numbers ++ None ∷ []; sites = q.sites }
with_slot q (Some x) = record { numbers = q.numbers ++ Some (length q.sites) ∷ []; sites = q.sites ++ x ∷ [] }

-- ---- rows

-- the cast of a part's use, where one must stand
abbrev pub cast_site : Part → Ty → Option TypedSite
cast_site x t = site_unless (precise x.ty t) (site_from x.place kind.Cast x.ty t)

-- those of parts that are each used at a type
abbrev pub put_casts : Slots → List Part → List Ty → Slots
put_casts q (x ∷ xs) (t ∷ ts) = put_casts (with_slot q (cast_site x t)) xs ts
put_casts q xs ts = q

-- a test of each part that goes to a place of a type
abbrev pub put_tested : Kind → Slots → List Part → List Ty → Slots
put_tested k q (x ∷ xs) (t ∷ ts) = put_tested k (with_slot q (tested_site k x.place x.ty t)) xs ts
put_tested k q xs ts = q

-- ---- the own sites of an expression

abbrev pub put_operator : Sort → Bool → Place → Slots → Slots
put_operator equality z p q = with_slot (with_slot q None) None
put_operator comparison z p q = with_slot (with_slot q None) None
put_operator arithmetic true p q = with_slot (with_slot q (Some (plain_site p kind.Operator))) (Some (plain_site p kind.Arithmetic))
put_operator arithmetic false p q = with_slot (with_slot q None) (Some (plain_site p kind.Arithmetic))

-- of a written cast to t, at its part
abbrev pub put_written : List Part → Ty → Slots → Slots
put_written [] t q = q
put_written (x ∷ xs) t q = with_slot q (Some (site_from x.place kind.Cast x.ty t))

-- of a call of the first part with the others
abbrev pub put_call : Place → List Part → List Ty → Slots → Slots
put_call p (x ∷ xs) (t ∷ ts) q = put_tested kind.Argument (with_slot q (site_at_dyn kind.Call p (types_of (x ∷ xs)))) xs ts
put_call p xs ts q = q

-- a new object has none
abbrev pub put_called : Option KnownClass → Place → List Part → List Ty → Slots → Slots
put_called (Some k) p xs ts q = q
put_called None p xs ts q = put_call p xs ts q

-- of an expression whose parts are used at the types ts, and which has type t
abbrev pub put_own : Known → Local → Expr → List Part → List Ty → Ty → Slots → Slots
put_own ks l (expr.local w) xs ts t q = with_slot q (name_site (type_of_name l.values w.text) w.place)
put_own ks l (expr.neg p a) xs ts t q = with_slot q (Some (plain_site p kind.Arithmetic))
put_own ks l (expr.binary o p a b) xs ts t q = put_operator (sort_of o) (is_dyn_sum o (types_of xs)) p q
put_own ks l (expr.read a w) xs ts t q = with_slot q (site_at_dyn kind.Member w.place (types_of xs))
put_own ks l (expr.call p f es) xs ts t q = put_called (called_class ks.classes f) p xs ts q
put_own ks l (expr.cast p a e) xs ts t q = put_written xs t q
put_own ks l (expr.join p w) xs ts t q = with_slot q (Some (plain_site w.place kind.Name))
put_own ks l e xs ts t q = q
