-- What reading a header and a body returns.
use Rattle.std.specs.Prelude.{◌≡◌, ⊤, List, Result, Ok, Err}
use Rattle.mx_request.specs.declared.request.Head3.{Head3}
use Rattle.mx_request.specs.declared.request.Request.{Request}
use Rattle.mx_request.specs.declared.fault.RequestFault.{RequestFault}
use Rattle.mx_request.specs.declared.fault.RequestFault.TheVariants.{Refused, NoMemory}
use Rattle.mx_msgpack.specs.Maps.{Pair}
use Rattle.mx_request.specs.Requests.{request_in, sync_in, stream_in}

-- exactly what is asked, or exactly why it is refused, with the header's sync and stream
abbrev pub ReturnsRequest : Result (Head3 × Request) RequestFault → (header body : List Pair) → Type 0
ReturnsRequest (Ok asked) header body = request_in header body ≡ Ok asked
ReturnsRequest (Err (Refused sync stream refusal)) header body =
    (request_in header body ≡ Err refusal) × (sync.0 ≡ sync_in header) × (stream.0 ≡ stream_in header)
ReturnsRequest (Err NoMemory) header body = ⊤
