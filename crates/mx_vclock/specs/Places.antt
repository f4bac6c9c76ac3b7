-- The places of a reader of a vclock's text, and the steps between them.
use Rattle.std.specs.Prelude.{ℕ, ◌+◌, ◌*◌, ◌-◌, ◌/◌, Option, Some, None, nat_lt, ◌==◌, if◌then◌else◌}
use Rattle.mx_vclock.specs.declared.place.Place.{Place}
use Rattle.mx_vclock.specs.declared.place.Place.TheVariants.{Start, Open, Comma, Next, Id, Colon, Named, Lsn, Done}
use Rattle.mx_msgpack.specs.Readers.{◌>>=◌}
use Rattle.mx_vclock.specs.Vclocks.{max_lsn}

-- the next place, where the byte is the one that is wanted
abbrev pub place_if : ℕ → ℕ → Place → Option Place
place_if wanted byte next = if byte == wanted then Some next else None

-- the value of a decimal digit
abbrev pub digit : ℕ → Option ℕ
digit byte = if nat_lt byte 48 then None else if nat_lt 57 byte then None else Some (byte - 48)

-- the greatest id that begins with the digits of this one, or a number above 31
abbrev pub greatest_id_from : ℕ → ℕ
greatest_id_from id = if nat_lt id 1 then id else if nat_lt 3 id then id else 10 * id + 9

-- the place after an id's first digits, whose value this is, where an allowed id begins with them
abbrev pub id_place : ℕ → ℕ → Option Place
id_place least id = if nat_lt 31 id then None else if nat_lt (greatest_id_from id) least then None else Some (Id least id)

-- the place after a byte that follows an id's first digits
abbrev pub after_id : ℕ → ℕ → ℕ → Option Place
after_id least id byte =
    if byte == 58 then (if nat_lt id least then None else Some (Colon id))
    else if nat_lt id 1 then None
    else if nat_lt 3 id then None
    else (digit byte >>= λ d. id_place least (10 * id + d))

-- the place after a byte that follows an lsn's first digits
abbrev pub after_lsn : ℕ → ℕ → ℕ → Option Place
after_lsn id lsn byte =
    if byte == 44 then (if nat_lt id 31 then Some (Comma (id + 1)) else None)
    else if byte == 125 then Some Done
    else (digit byte >>= λ d. if nat_lt (max_lsn / 10) lsn then None else if nat_lt max_lsn (10 * lsn + d) then None else Some (Lsn id (10 * lsn + d)))

-- the place after a byte; none where no text goes on with it
unfoldable pub next_place : Place → ℕ → Option Place
next_place Start byte = place_if 123 byte Open
next_place Open byte = if byte == 125 then Some Done else (digit byte >>= id_place 0)
next_place (Comma least) byte = place_if 32 byte (Next least)
next_place (Next least) byte = digit byte >>= id_place least
next_place (Id least id) byte = after_id least id byte
next_place (Colon id) byte = place_if 32 byte (Named id)
next_place (Named id) byte = if byte == 48 then None else (digit byte >>= λ d. Some (Lsn id d))
next_place (Lsn id lsn) byte = after_lsn id lsn byte
next_place Done byte = None
