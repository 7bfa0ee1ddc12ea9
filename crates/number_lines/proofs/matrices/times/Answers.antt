-- `number_lines::matrices::times` meets its contract: 7 times 7 is below 50.
use Rattle.std.proofs.Common.{◌*◌, ◌≤◌, refl, mul-le-mul, arith}
use Rattle.number_lines.proofs.matrices.times.Goals as goal

pub overflow_mul-result : goal.overflow_mul-result
overflow_mul-result c =
    let h : c.args.n * c.args.k ≤ 7 * 7 = mul-le-mul {n₂ = 7} {m₂ = 7} (omega arith) (omega arith) in
    record { fits = omega arith }

pub returns : goal.returns
returns c =
    let h : c.args.n * c.args.k ≤ 7 * 7 = mul-le-mul {n₂ = 7} {m₂ = 7} (omega arith) (omega arith) in
    (refl, omega arith)
