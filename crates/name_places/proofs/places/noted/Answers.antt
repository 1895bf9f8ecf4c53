use Rattle.std.proofs.Common.{◌≡◌, ◌∙◌, sym, ap, subst, ℕ, List, Some, None, bytes_eq, if◌then◌else◌}
use Rattle.std.specs.Option.{option_or}
use Rattle.name_places.specs.computed.Firsts.{first_in}
use Rattle.name_places.proofs.FirstLaws.{first-noted, first-known, looked-none, looked-some}
use Rattle.name_places.proofs.places.noted.Goals.{then-is_none+in_ok-key+in_ok-insert, else-is_none}
use Rattle.name_places.proofs.places.noted.Goals as goal

pub returns : goal.returns
returns c =
    let m = c.args.firsts in
    let looked : first_in m c.args.name.now ≡ first_in m c.as_slice.result.now = ap (first_in m) (sym c.as_slice.ensures) in
    elim c.if-is_none.branch [
      | then-is_none+in_ok-key+in_ok-insert w ↦
          let new : first_in m c.args.name.now ≡ None = looked ∙ (sym c.get.ensures.value ∙ looked-none c.get.result c.is_none.result c.is_none.ensures w.if-is_none.true) in
          let key : w.in_ok-key.key.items ≡ c.args.name.now = w.in_ok-key.ensures.items ∙ w.as_slice-then-is_none.ensures in
          let more = first-noted m w.insert.new.self w.in_ok-key.key.items c.args.at (ap (first_in m) key ∙ new) w.in_ok-insert.ensures.updates in
          subst (λ (f : _). (x : List ℕ) → first_in f x ≡ option_or (first_in m x) (if bytes_eq c.args.name.now x then Some c.args.at else None)) (sym w.firsts-is)
          (subst (λ (bs : List ℕ). (x : List ℕ) → first_in w.insert.new.self x ≡ option_or (first_in m x) (if bytes_eq bs x then Some c.args.at else None)) key more)
      | else-is_none w ↦
          let known = looked-some c.get.result c.is_none.result c.is_none.ensures w.if-is_none.false in
          let old = first-known m c.args.name.now c.args.at known.0 (looked ∙ (sym c.get.ensures.value ∙ known.1)) in
          subst (λ (f : _). (x : List ℕ) → first_in f x ≡ option_or (first_in m x) (if bytes_eq c.args.name.now x then Some c.args.at else None)) (sym w.firsts-is) old
    ]
