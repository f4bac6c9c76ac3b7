use Rattle.std.proofs.Common.{◌≡◌, ◌++◌, rules}
use Rattle.std.specs.Prelude.{OnOk}
use Rattle.std.proofs.lemmas.Result.{on_ok_weaker}
use Rattle.mx_request.proofs.WriterLaws.{uuid_written}
use Rattle.mx_request.proofs.encode.write_uuid.Goals as goal

pub returns : goal.returns
returns c =
    let text = c.encode_lower-text.result.now in
    let last : OnOk c.extend_from_slice-2.result (c.extend_from_slice-2.new.self ≡ c.write_str_head.new.out ++ text) = search rules in
    on_ok_weaker c.extend_from_slice-2.result
    (λ e. uuid_written c.args.out.now c.extend_from_slice.new.self c.write_str_head.new.out c.extend_from_slice-2.new.self text c.args.id.now c.args.key (search rules) (search rules) e (search rules)) last
