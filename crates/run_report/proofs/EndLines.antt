-- Each end of a run but Done has an err line: a blame and an error have that of their site.
use Rattle.std.proofs.Common.{◌≡◌, ℕ, List, [], ◌∷◌, codes, Some, ap, ◌∙◌, refl, subst, sym}
use Rattle.mono_syntax.specs.declared.cast.CastScript.{CastScript}
use Rattle.mono_syntax.specs.declared.leaf.Place.{Place}
use Rattle.mono_syntax.specs.declared.leaf.Site.{Site}
use Rattle.cast_machine.specs.BlamedSites.{IsBlamedSite}
use Rattle.cast_machine.specs.Safety.{IsSafe}
use Rattle.cast_machine.specs.Step.{Configuration}
use Rattle.cast_machine.specs.Typing.{AreRightEnds, IsRightEnd}
use Rattle.cast_machine.specs.declared.data.End.{End}
use Rattle.cast_machine.specs.declared.data.End.TheVariants as ends
use Rattle.run_report.specs.Ends.{blame_line, end_text, error_line, kind_text, placed_line}

-- a blame's line is that of its site
pub blame_has_line : (p : CastScript) (k : ℕ) (i : IsBlamedSite p k) → end_text p.sites (ends.Blame k) ≡ placed_line (codes "blame ") (i.site).place (kind_text (i.site).kind)
blame_has_line p k i = ap blame_line i.at

not_empty : (before : List ℕ) (c : ℕ) (p : Place) (after : List ℕ) → placed_line (c ∷ before) p after ≡ [] → ⊥
not_empty before c p after e = cc

blame_some : (s : Site) → blame_line (Some s) ≡ [] → ⊥
blame_some s e = not_empty (codes "lame ") _ s.place (kind_text s.kind) e

error_some : (what : List ℕ) (s : Site) → error_line what (Some s) ≡ [] → ⊥
error_some what s e = not_empty (codes "rror ") _ s.place what e

pub end_has_line : (p : CastScript) (e : End) → IsRightEnd p e → (e ≡ ends.Done → ⊥) → end_text p.sites e ≡ [] → ⊥
end_has_line p ends.Done i other z = other refl
end_has_line p (ends.Blame k) i other z = blame_some (i.1).site (sym (ap blame_line (i.1).at) ∙ z)
end_has_line p (ends.ZeroDivision k) i other z = error_some (codes ": division by zero") i.site (sym (ap (error_line (codes ": division by zero")) i.at) ∙ z)
end_has_line p (ends.Overflow k) i other z = error_some (codes ": overflow") i.site (sym (ap (error_line (codes ": overflow")) i.at) ∙ z)
end_has_line p (ends.Unbound k) i other z = error_some (codes ": unbound name") i.site (sym (ap (error_line (codes ": unbound name")) i.at) ∙ z)
end_has_line p ends.Fuel i other z = absurd cc
end_has_line p ends.HeapFull i other z = absurd cc
end_has_line p ends.PrintFull i other z = absurd cc
end_has_line p ends.ThreadLimit i other z = absurd cc
end_has_line p ends.DepthLimit i other z = absurd cc

-- so has each end that a run records
pub run_has_line : (p : CastScript) (c : Configuration) → IsSafe p c → (e : End) → c.end ≡ Some e → (e ≡ ends.Done → ⊥) → end_text p.sites e ≡ [] → ⊥
run_has_line p c safe e is other = end_has_line p e (subst (AreRightEnds p) is (safe.typed).end) other
