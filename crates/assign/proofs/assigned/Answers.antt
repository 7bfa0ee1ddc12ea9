-- `assign::assigned` meets its contract.
use Rattle.std.proofs.Common.{◌≤◌, arith}
use Rattle.matching.proofs.Loops.{few-cells}
use Rattle.assign.proofs.assigned.Goals as goal

pub assigned_in-requires-else-n-le16-clause-room : goal.assigned_in-requires-else-n-le16-clause-room
assigned_in-requires-else-n-le16-clause-room c =
    let most : c.max-n.result ≤ 64 = omega arith in
    (few-cells c.max-n.result c.max-n.result most most, omega arith)
