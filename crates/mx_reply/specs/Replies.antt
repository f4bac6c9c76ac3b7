-- Replies as packets (IPROTO, "Response structure").
use Rattle.std.specs.Prelude.{ℕ, ◌+◌, List, [], ◌∷◌, ◌++◌, length}
use Rattle.std.specs.List.{concat}
use Rattle.byteorder.specs.Endian.{big_bytes}
use Rattle.mx_msgpack.specs.Spelling.{str_head}
use Rattle.mx_vclock.specs.Spelling.{clock_map}
use Rattle.mx_base.specs.declared.refusal.Refusal.{Refusal}
use Rattle.mx_base.specs.Refusals.{code_of, text_of}
use Rattle.mx_reply.specs.declared.body.ReplyBody.{ReplyBody}
use Rattle.mx_reply.specs.declared.body.ReplyBody.TheVariants.{Empty, Tuples, Clock}

-- a map of three pairs: the type under 0x00, the sync under 0x01 and the schema version under 0x05
abbrev pub reply_header : (schema sync kind : ℕ) → List ℕ
reply_header schema sync kind =
    (0x83 ∷ 0x00 ∷ 0xce ∷ big_bytes 4 kind) ++ (0x01 ∷ 0xcf ∷ big_bytes 8 sync) ++ (0x05 ∷ 0xce ∷ big_bytes 4 schema)

-- the size of header and body in 32 bits, then both
abbrev pub reply_packet : (schema sync kind : ℕ) → (body : List ℕ) → List ℕ
reply_packet schema sync kind body =
    let content = reply_header schema sync kind ++ body in
    (0xce ∷ big_bytes 4 (length content)) ++ content

-- a body as a map: empty; the tuples under 0x30, as an array of 32 bits; or a vclock under 0x26
abbrev pub reply_body_text : ReplyBody → List ℕ
reply_body_text Empty = 0x80 ∷ []
reply_body_text (Tuples tuples) = (0x81 ∷ 0x30 ∷ 0xdd ∷ big_bytes 4 (length tuples)) ++ concat tuples
reply_body_text (Clock clock) = (0x81 ∷ 0x26 ∷ []) ++ clock_map clock

-- the refusal's text under 0x31
abbrev pub refusal_body : Refusal → List ℕ
refusal_body refusal = (0x81 ∷ 0x31 ∷ []) ++ (str_head (length (text_of refusal)) ++ text_of refusal)

-- version 1 of the protocol under 0x54, and the features 0 and 1 under 0x55
abbrev pub id_body : List ℕ
id_body = 0x82 ∷ 0x54 ∷ 0x01 ∷ 0x55 ∷ 0x92 ∷ 0x00 ∷ 0x01 ∷ []

-- a success has the type 0
abbrev pub ok_packet : (schema sync : ℕ) → ReplyBody → List ℕ
ok_packet schema sync body = reply_packet schema sync 0 (reply_body_text body)

-- a refusal has the type 0x8000 plus its number
abbrev pub error_packet : (schema sync : ℕ) → Refusal → List ℕ
error_packet schema sync refusal = reply_packet schema sync (0x8000 + code_of refusal) (refusal_body refusal)

-- the reply to a request for the protocol's version and features
abbrev pub id_packet : (schema sync : ℕ) → List ℕ
id_packet schema sync = reply_packet schema sync 0 id_body
