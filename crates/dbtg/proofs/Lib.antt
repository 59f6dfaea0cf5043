mod TextsAtHand
mod Pictures
