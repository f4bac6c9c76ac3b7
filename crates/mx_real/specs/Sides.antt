-- What is known of the next read or write of a link.
use Rattle.mx_real.specs.declared.side.Side.{Side}
use Rattle.mx_real.specs.declared.side.Side.TheVariants.{Open, Blocked, Quiet}

-- after a rest in which nothing was told of the link
abbrev pub rested : Side → Side
rested Open = Open
rested Blocked = Quiet
rested Quiet = Quiet
