use Rattle.std.proofs.Common.{◌<◌, length, arith}
use Rattle.cast_machine.proofs.Places.{within_same, pair_updates, missing_same}
use Rattle.cast_machine.proofs.map.set_in.Goals as goal

pub index_mut-requires : goal.index_mut-requires
index_mut-requires g c =
    let within : c.in-Some.at < length c.args.entries.now.items =
    within_same c.args.name.now c.args.value c.deref.result.now c.args.entries.now.items c.in-Some.at c.deref.ensures.value c.in-Some.ensures in
    omega (arith, c.args.entries.now.ok)

pub returns-in-Some : goal.returns-in-Some
returns-in-Some g c =
    pair_updates c.args.name.now c.args.value c.deref.result.now c.args.entries.now.items c.in-Some.at c.index_mut.result.now c.deref.ensures.value c.in-Some.ensures c.index_mut.ensures.value

pub returns-in_default : goal.returns-in_default
returns-in_default g c = missing_same c.args.name.now c.args.value c.deref.result.now c.args.entries.now.items c.deref.ensures.value c.in_default.ensures
