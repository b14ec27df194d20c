-- Files in memory, by what is delivered of them.
use Rattle.pb_records.specs.Loading.{Delivery}
use Rattle.pb_records.specs.Loading as delivery
use Rattle.pb_reply.specs.Inputs.{in_memory}
use Rattle.pb_reply.specs.declared.loaded.Loaded.{Loaded}
use Rattle.pb_reply.specs.declared.loaded.Loaded.TheVariants as loaded
use Rattle.pb_reply.specs.declared.loaded.File.{File}
use Rattle.pb_reply.specs.declared.loaded.File.TheVariants as file

-- what is delivered of a file that was loaded
abbrev pub delivery_of : Loaded → Delivery
delivery_of (loaded.Bytes bytes) = in_memory bytes.items
delivery_of loaded.Unread = delivery.Read
delivery_of loaded.TooLong = delivery.TooLong

-- the same of a file whose bytes are lent
abbrev pub lent : File → Delivery
lent (file.Bytes bytes) = delivery.Bytes bytes.now
lent file.Unread = delivery.Read
lent file.TooLong = delivery.TooLong
