use Rattle.std.proofs.Common.{refl}
use Rattle.class_types.proofs.TableLaws.{stand-types}
use Rattle.class_types.proofs.table.added.Goals as goal

pub returns-clause-keeps : goal.returns-clause-keeps
returns-clause-keeps c = record {
  holds = record {
    stand = stand-types _ _ _ _ c.requires.stand c.in_ok-at.ensures.begins c.in_ok-at.ensures.distinct;
    names = c.requires.names;
    own = c.requires.own;
  };
  script = refl;
  classes = refl;
  types = c.in_ok-at.ensures.begins;
}
