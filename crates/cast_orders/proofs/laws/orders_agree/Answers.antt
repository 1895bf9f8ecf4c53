use Rattle.cast_orders.proofs.FitLaws.{fit_bounds, fit_ended, fit_blamed, fit_is}
use Rattle.cast_orders.proofs.Weakest.{one_weakest, weakest_of_both, same_orders, second_solves}
use Rattle.cast_orders.proofs.laws.orders_agree.Goals as goal

pub returns : goal.returns
returns c = record {
  unique = one_weakest;
  both = weakest_of_both;
  orders = same_orders;
  second = second_solves;
  bounds = fit_bounds;
  ended = fit_ended;
  blamed = fit_blamed;
  whole = fit_is;
}
