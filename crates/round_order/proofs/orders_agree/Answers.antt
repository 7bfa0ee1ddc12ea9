-- `round_order::orders_agree` meets its contract.
use Rattle.round_order.proofs.Agree.{orders-agree}
use Rattle.round_order.proofs.orders_agree.Goals as goal

pub returns : goal.returns
returns c = orders-agree
