-- What a clause sees of a write in place.
use Rattle.mx_msgpack.specs.Items.{IsArray}
use Rattle.mx_write.specs.declared.write.Write as in_place
use Rattle.mx_write.specs.declared.write.Write.TheVariants as place
use Rattle.mx_write.specs.Writes.{Write, Insert, Replace, Update, Delete, Upsert}

-- a write without where its arrays lie in memory
abbrev pub write_view : in_place.Write → Write
write_view (place.Insert tuple) = Insert tuple.now
write_view (place.Replace tuple) = Replace tuple.now
write_view (place.Update index base key operations) = Update index.0 base key.now operations.now
write_view (place.Delete index key) = Delete index.0 key.now
write_view (place.Upsert base tuple operations) = Upsert base tuple.now operations.now

-- its tuple or its key is an array
abbrev pub AreArrays : in_place.Write → Type 0
AreArrays (place.Insert tuple) = IsArray tuple.now
AreArrays (place.Replace tuple) = IsArray tuple.now
AreArrays (place.Update index base key operations) = IsArray key.now
AreArrays (place.Delete index key) = IsArray key.now
AreArrays (place.Upsert base tuple operations) = IsArray tuple.now
