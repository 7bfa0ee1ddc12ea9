-- `round_order::orders_differ` meets its contract.
use Rattle.round_order.proofs.Differ.{orders-differ}
use Rattle.round_order.proofs.orders_differ.Goals as goal

pub returns : goal.returns
returns c = orders-differ
