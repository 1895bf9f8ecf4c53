use Rattle.std.proofs.Common.{Ok, Err, subst, List, ℕ}
use Rattle.std.specs.Ordering.{nat_cmp}
use Rattle.std.specs.List.Sorted.{IsBinarySearchResult}
use Rattle.calculus_data.proofs.Starts.{found_place}
use Rattle.calculus_data.proofs.heap.place_in.Goals as goal

pub returns-in-Ok : goal.returns-in-Ok
returns-in-Ok c h e =
    found_place h c.args.base c.requires (Ok c.in-Ok.at) (subst (λ (l : List ℕ). IsBinarySearchResult (λ y. nat_cmp y c.args.base) l (Ok c.in-Ok.at)) e c.in-Ok.ensures.position)

pub returns-in-Err : goal.returns-in-Err
returns-in-Err c h e =
    found_place h c.args.base c.requires (Err c.in-Err.field-0) (subst (λ (l : List ℕ). IsBinarySearchResult (λ y. nat_cmp y c.args.base) l (Err c.in-Err.field-0)) e c.in-Err.ensures.position)
