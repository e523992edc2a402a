-- What an event asks the disk for, besides its reads, writes and syncs. It has no counterpart in Linux.
use Rattle.std.specs.Prelude.{List, [], ◌∷◌, ◌++◌}
use Rattle.plain_machine.specs.declared.event.Event.{Event}
use Rattle.plain_machine.specs.declared.event.Event.TheVariants as event
use Rattle.sector_disk.specs.declared.orders.Order.{Order}
use Rattle.sector_disk.specs.declared.orders.Order.TheVariants as order

-- Only a cut asks the disk for a restart, and only an arm for calls to fail, each with the event's own numbers.
abbrev pub orders_after : Event → List Order → List Order
orders_after (event.Cut pick) orders = orders ++ order.Restart pick ∷ []
orders_after (event.Arm first count pick) orders = orders ++ order.Arm first count pick ∷ []
orders_after _ orders = orders
