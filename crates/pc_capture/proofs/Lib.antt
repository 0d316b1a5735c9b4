mod OnePoints
