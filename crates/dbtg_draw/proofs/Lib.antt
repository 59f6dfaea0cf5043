mod TwoParts
