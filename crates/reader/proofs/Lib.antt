mod Message
