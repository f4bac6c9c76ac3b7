use Rattle.std.proofs.Common.{rules, arith}
use Rattle.mx_xlog.proofs.PlaceLaws.{no_kind, no_version, no_instance, no_set, opening_told}
use Rattle.mx_xlog.proofs.LastLaws.{no_clock, no_end, header_told}
use Rattle.mx_xlog.proofs.reading.read_header.Goals as goal

pub returns-in_default : goal.returns-in_default
returns-in_default c = no_kind c.args.bytes.now c.in_default.ensures

pub returns-in_default-behind : goal.returns-in_default-behind
returns-in_default-behind c = no_version _ _ c.args.bytes.now c.in-Some.ensures c.in_default-behind.ensures

pub returns-in_default-id_line : goal.returns-in_default-id_line
returns-in_default-id_line c = no_instance _ _ c.args.bytes.now c.in-Some.ensures _ c.in-Some-behind.ensures c.in_default-id_line.ensures

pub returns-in_default-id_line-2 : goal.returns-in_default-id_line-2
returns-in_default-id_line-2 c =
    no_set _ _ c.args.bytes.now c.in-Some.ensures _ c.in-Some-behind.ensures c.in-Some-id_line.instance _ (search rules)
    c.in_default-id_line-2.ensures

pub returns-in_default-clock_line : goal.returns-in_default-clock_line
returns-in_default-clock_line c =
    let instance = c.in-Some-id_line in
    let replica = c.read_replica-replica.ensures in
    no_clock _ _ _ _ _ _ c.args.bytes.now replica.below
    (opening_told _ _ c.args.bytes.now c.in-Some.ensures _ c.in-Some-behind.ensures
    instance.instance instance.rest.now instance.ensures c.in-Some-id_line-2.set _ (search rules))
    replica.begins _ replica.first c.in_default-clock_line.ensures c.clock_place-line.ensures.place

pub returns-in_default-behind-2 : goal.returns-in_default-behind-2
returns-in_default-behind-2 c =
    let instance = c.in-Some-id_line in
    let replica = c.read_replica-replica.ensures in
    no_end _ _ _ _ _ _ c.args.bytes.now replica.below
    (opening_told _ _ c.args.bytes.now c.in-Some.ensures _ c.in-Some-behind.ensures
    instance.instance instance.rest.now instance.ensures c.in-Some-id_line-2.set _ (search rules))
    replica.begins c.in-Some-clock_line.clock _ (search rules) _ c.in_default-behind-2.ensures (omega (arith, c.clock_place-line.ensures.place))

pub returns : goal.returns
returns c =
    let instance = c.in-Some-id_line in
    let replica = c.read_replica-replica.ensures in
    header_told _ _ _ _ _ _ c.args.bytes.now replica.below
    (opening_told _ _ c.args.bytes.now c.in-Some.ensures _ c.in-Some-behind.ensures _ instance.rest.now (search rules) _ _ (search rules))
    replica.begins _ _ (search rules) _ c.in-Some-behind-2.ensures
