use Rattle.std.proofs.Common.{◌≡◌, ℕ, List, cond, subst}
use Rattle.std.specs.Prelude.{bytes_eq}
use Rattle.script_rules.specs.declared.occurrence.Occurrence.{Occurrence}
use Rattle.name_scope.specs.computed.Bound.{target_of}
use Rattle.name_scope.specs.computed.NameRoles.{alone, together}
use Rattle.name_scope.specs.computed.Table.{roles_in}
use Rattle.name_scope.proofs.TypedNameLaws.{seen_again, one_more_name}
use Rattle.name_scope.proofs.typing.with_target.Goals as goal

pub returns-then-roles : goal.returns-then-roles
returns-then-roles c = λ first ts n. seen_again first ts c.args.state (target_of c.args.t.now) (cc (c.roles.ensures, c.if-roles.true)) n

pub returns : goal.returns
returns c = λ first ts n.
    let t = target_of c.args.t.now in
    let old = c.args.state.seen.roles in
    let noted = subst (λ (o : Occurrence). (x : List ℕ) → roles_in c.note.new.self.roles x ≡ cond (bytes_eq o.text x) (together (roles_in old x) (alone o.role o.place)) (roles_in old x))
    c.in_ok-o.ensures c.in_ok-note.ensures in
    one_more_name first ts c.args.state (record { known = c.in_ok-ty.known; names = c.push.new.self; seen = c.note.new.self }) t
    (record { name = c.in_ok-name.name; ty = c.in_ok-ty.ty }) t.word.place
    (cc (c.roles.ensures, c.if-roles.false)) c.in_ok-push.ensures.ok c.in_ok-name.ensures c.in_ok-ty.ensures.found c.in_ok-ty.ensures.keeps noted n
