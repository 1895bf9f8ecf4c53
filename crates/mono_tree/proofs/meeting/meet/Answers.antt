use Rattle.mono_tree.proofs.MeetAnswers.{greatest, apart, kept}
use Rattle.mono_tree.proofs.meeting.meet.Goals as goal

pub returns-clause-greatest : goal.returns-clause-greatest
returns-clause-greatest c = greatest _ _ _ c.met.ensures

pub returns-clause-apart : goal.returns-clause-apart
returns-clause-apart c = apart _ _ _ c.met.ensures

pub returns-clause-kept : goal.returns-clause-kept
returns-clause-kept c = kept _ _ _ c.met.ensures
