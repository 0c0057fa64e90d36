use Rattle.std.proofs.Common.{rules, tests}
use Rattle.relay.specs.Rows.{unsettled_row}
use Rattle.leader.specs.Sessions.{zone_row, zone_rows}
use Rattle.leader.proofs.Made.{made_by}
use Rattle.leader.proofs.sessions.zone_rows.Goals as goal

pub returns : goal.returns
unfolding zone_rows
returns g c =
    let copies = c.args.copies.now in
    made_by _ (zone_row copies.logs.now copies.entries.now c.args.leader c.args.holders) _ (λ x y q k. search (rules, tests)) _ 16 (unsettled_row 0) c.from_fn.ensures.items
