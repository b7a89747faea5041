-- The channels that ends and passes belong to.
use Rattle.std.specs.Prelude.{Option}
use Rattle.std.specs.declared.alloc.Global.{Global}
use Rattle.atomic_table.specs.declared.badge.Badge.{Badge}
use Rattle.crossbeam_channel.specs.declared.flavors.array.Doing.{Doing}
use Rattle.crossbeam_channel.specs.declared.flavors.array.Key.{Key}
use Rattle.crossbeam_channel.specs.declared.flavors.array.Lockers.{Lockers}
use Rattle.crossbeam_channel.specs.declared.flavors.array.Rounds.{Rounds}
use Rattle.crossbeam_channel.specs.declared.flavors.array.Rows.{Rows}
use Rattle.crossbeam_channel.specs.declared.flavors.array.Whole.{Whole}
use Rattle.crossbeam_channel.specs.declared.flavors.array.ruled.Receiving.{Receiving}
use Rattle.crossbeam_channel.specs.declared.flavors.array.ruled.Sending.{Sending}
use Rattle.seat_calls.specs.declared.done.Done.{Done}
use Rattle.crew_channels.specs.declared.order.Order.{Order}
use Rattle.crew_channels.specs.declared.orders.InOrder.{InOrder}
use Rattle.crew_channels.specs.declared.orders.Orders.{Orders}
use Rattle.crew_channels.specs.declared.results.BySeat.{BySeat}
use Rattle.crew_channels.specs.declared.results.Results.{Results}

-- a seat's channel
abbrev pub OrderRing : Type 0
OrderRing = Rows (Badge (Key Order)) (Doing Order Orders) (Rounds InOrder) (Option Order) (Key Order)
    (Lockers Whole) Global

-- the shared channel
abbrev pub DoneRing : Type 0
DoneRing = Rows (Badge (Key Done)) (Doing Done Results) (Rounds BySeat) (Option Done) (Key Done) (Lockers Whole) Global

-- the ends of a seat's channel
abbrev pub OrderSender : Type 0
OrderSender = Sending OrderRing Global

abbrev pub OrderReceiver : Type 0
OrderReceiver = Receiving OrderRing Global

-- the ends of the shared channel
abbrev pub DoneSender : Type 0
DoneSender = Sending DoneRing Global

abbrev pub DoneReceiver : Type 0
DoneReceiver = Receiving DoneRing Global
