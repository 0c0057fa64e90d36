use Rattle.std.proofs.Common.{◌≡◌, take, length, arith, ◌∙◌}
use Rattle.std.proofs.lemmas.Grind.{common_steps}
use Rattle.rehearsal.specs.Decode.{value_bytes}
use Rattle.rehearsal.proofs.Values.{value_after}
use Rattle.rehearsal.proofs.reading.decode.Goals as goal

pub returns : goal.returns
returns g c =
    let k = c.in_ok-head.ensures.cases in
    let m : length c.args.bytes.now ≡ 24 = omega arith in
    let w = value_after c.args.bytes.now m in
    let h : c.in_ok-head.head.now ≡ take 8 c.args.bytes.now = rw m at k.0 in
    let v : c.in_ok-head.value.now ≡ value_bytes c.args.bytes.now = (rw m at k.1) ∙ w in
    grind (arith, common_steps)
